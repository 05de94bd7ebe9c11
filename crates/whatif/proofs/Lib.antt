pub mod ReadLines
pub mod Copies
pub mod Bounds
pub mod Settled
pub mod Sessions
pub mod Following
