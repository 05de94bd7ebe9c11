-- The definitions of this crate, module by module: what a design draws in its cycles, within which limits.
pub mod Cycle
pub mod Cycles
pub mod Drawn
pub mod Limits
pub mod Reach
pub mod Fault
pub mod Step
