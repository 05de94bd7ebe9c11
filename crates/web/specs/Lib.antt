-- The definitions of this crate: what a page hands over, and what its call answers.
pub mod Given
pub mod Answered
