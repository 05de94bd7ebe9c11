-- The modules of definitions of this crate.
pub mod Trees
pub mod Files
