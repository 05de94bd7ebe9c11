mod Json
pub mod Tree
pub mod Marks
pub mod Read
pub mod Linked
pub mod Sheets
pub mod Drawable
pub mod Visible
pub mod Short
pub mod Chain
pub mod ReadAgain
pub mod Lone
pub mod Files
pub mod DesignAgain
pub mod Breaks
