-- The modules of definitions of this crate.
pub mod Subject
pub mod EditLine
pub mod EditsFile
pub mod Laws
pub mod Step
