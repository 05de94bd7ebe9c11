-- The definitions of this crate: what is found, and between which calls.
pub mod Found
pub mod Ready
pub mod Step
