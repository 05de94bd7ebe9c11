pub mod RowLines
pub mod SaidLines
pub mod Words
pub mod Lone
