-- Words of private contracts.
pub mod Stored
pub mod Answer
pub mod Reading
