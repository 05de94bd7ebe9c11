-- The modules of definitions of this crate.
pub mod Text
pub mod Whatif
pub mod Laws
pub mod Step
