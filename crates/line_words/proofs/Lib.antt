pub mod Inverts
pub mod NumberLaws
pub mod Cutting
pub mod Plain
pub mod Printing
pub mod Looping
pub mod Inverting
pub mod Putting
