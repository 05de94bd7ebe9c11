-- The definitions of this crate, module by module: the kind of a mark.
pub mod Kinds
