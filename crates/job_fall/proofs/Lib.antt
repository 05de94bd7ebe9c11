pub mod Pieces
pub mod Moving
pub mod Viewing
pub mod Going
pub mod Following
pub mod Whole
pub mod Ending
