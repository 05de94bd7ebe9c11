pub mod Steps
pub mod Apart
pub mod Sheets
pub mod Netlists
pub mod Rows
pub mod Designs
