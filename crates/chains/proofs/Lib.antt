pub mod Raised
pub mod Following
pub mod Looked
pub mod Marked
pub mod Naming
