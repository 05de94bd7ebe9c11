-- The modules of words of the contracts within this crate.
pub mod Keeping
pub mod Searching
pub mod Put
