-- The definitions of this crate: numbers as they are drawn, and their laws.
pub mod Numbers
pub mod Laws
