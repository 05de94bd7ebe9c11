-- The modules of definitions of this crate.
pub mod Rows
pub mod Lines
pub mod Table
pub mod Text
pub mod Brief
pub mod Step
