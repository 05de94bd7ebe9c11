-- The definitions of this crate: ranges, names, what shelves and sinks do, readings step by step, texts and numerals.
pub mod Range
pub mod Names
pub mod Outside
pub mod Reading
pub mod Characters
pub mod Cuts
pub mod Numerals
pub mod Memory
pub mod Step
