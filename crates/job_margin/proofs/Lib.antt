pub mod Lining
pub mod Called
pub mod Endings
pub mod Whole
