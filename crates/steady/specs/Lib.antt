-- The definitions of this crate, module by module: what is found of a pair and of a row over a run, steady times, and what this says of every run.
pub mod Cycles
pub mod Extremes
pub mod Steady
pub mod Found
pub mod Verdicts
pub mod Laws
pub mod Step
