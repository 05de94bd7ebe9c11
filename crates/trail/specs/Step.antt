-- Words of contracts within this crate.
pub mod Undo
pub mod Inside
