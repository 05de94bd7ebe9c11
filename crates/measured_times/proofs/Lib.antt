pub mod FileLines
pub mod RunTexts
