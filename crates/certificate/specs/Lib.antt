-- The modules of definitions of this crate.
pub mod Text
pub mod Reading
pub mod Owned
pub mod Answer
pub mod Scribing
pub mod ScribeLaws
pub mod Step
