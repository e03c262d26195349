-- What is promised of the whole, from the bytes that come in to the bytes that go out. The first promise, that the switch writes what is meant, stands with the definitions of both.
pub mod Accepting
pub mod Pieces
pub mod Refusals
pub mod Others
