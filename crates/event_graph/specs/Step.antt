-- Words of contracts within this crate.
pub mod Rising
pub mod Noted
