-- The definitions of this crate, module by module: what a lone sheet draws, what a report says, and the laws.
pub mod Lone
pub mod Said
pub mod Laws
