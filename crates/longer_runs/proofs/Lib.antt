-- The lemmas of this crate.
pub mod Lists
pub mod Windows
pub mod Rows
pub mod Periods
pub mod Folding
pub mod Always
