pub mod Answering
pub mod Does
pub mod Numbers
pub mod Laws
pub mod Reading
pub mod Serving
pub mod Stands
