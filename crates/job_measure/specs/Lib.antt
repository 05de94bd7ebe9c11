-- The modules of definitions of this crate.
pub mod Spare
pub mod Looks
pub mod Tally
pub mod Headings
pub mod Lines
pub mod Text
pub mod Measure
pub mod Laws
pub mod Step
