-- The definitions of this crate, module by module: networks in which numbers of the drawing are moved, what passes and breaks, the numbers of a
-- drawing, what is found of a number, and laws.
pub mod Moving
pub mod Passing
pub mod Listed
pub mod Found
pub mod Networks
pub mod Laws
pub mod Covers
pub mod Step
