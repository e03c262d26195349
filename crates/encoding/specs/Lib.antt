pub mod Encoded
pub mod WellFormed
pub mod RoundTrip
pub mod Appending
