mod Ranges
mod Reaching
mod Along
mod Widening
mod Opening
mod Deciding
pub mod Standing
mod Measures
