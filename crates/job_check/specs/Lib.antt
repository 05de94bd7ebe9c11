-- The definitions of this crate: what job check answers and writes, and words of contracts within the crate.
pub mod Check
pub mod Step
