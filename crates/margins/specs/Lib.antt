-- The definitions of this crate: how far the ends of numbers may be moved, how far an end can be moved at all, and words of private contracts.
pub mod Ends
pub mod Reaching
pub mod Step
