-- The definitions of this crate: the ends of drawn ranges, and which of them no times attain.
pub mod Ends
pub mod Narrow
pub mod Step
