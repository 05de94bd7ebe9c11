-- The modules of definitions of this crate.
pub mod JobWrote
pub mod Ending
pub mod Events
