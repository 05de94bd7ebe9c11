-- Words of contracts within this crate.
pub mod Listing
pub mod Waiting
pub mod Chosen
pub mod Falling
pub mod Poised
pub mod Walking
pub mod Timing
pub mod Guessing
pub mod Limits
