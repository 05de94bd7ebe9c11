-- The definitions of this crate, module by module: what is drawn of a row, and its text.
pub mod Narrowing
pub mod Order
pub mod Drawing
pub mod Text
pub mod Step
pub mod Laws
