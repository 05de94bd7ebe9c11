pub mod Building
pub mod Single
pub mod Saying
pub mod Numbers
pub mod Limits
