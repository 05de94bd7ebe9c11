pub mod Narrow
pub mod Past
mod Inserting
mod Holding
pub mod Stands
pub mod Pieces
pub mod Ordered
pub mod Same
pub mod Rows
pub mod Distinct
pub mod Farther
pub mod Few
pub mod Names
mod Example
