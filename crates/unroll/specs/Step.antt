-- Words of contracts within this crate.
pub mod Counting
pub mod Kept
pub mod Between
pub mod Labels
pub mod Firsts
