-- The definitions of this crate, module by module: drawn networks, and how they are kept.
pub mod Drawn
pub mod Kept
