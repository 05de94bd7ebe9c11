-- The definitions of this crate, module by module: right bounds, verdicts and slacks.
pub mod Bounds
pub mod Verdicts
pub mod Slacks
pub mod Raising
pub mod Laws
pub mod Separations
pub mod Step
