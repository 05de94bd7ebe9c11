-- Words of private contracts.
pub mod Answer
pub mod Reading
