pub mod Subjects
pub mod EditTexts
pub mod FileLines
