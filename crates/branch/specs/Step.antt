-- Words of contracts within this crate.
pub mod Cases
pub mod Edges
pub mod Raising
pub mod Standing
pub mod Searched
pub mod Inside
pub mod Looking
pub mod Breaking
