-- Words of private contracts.
pub mod Bounding
pub mod Judging
pub mod Knowing
pub mod Standing
pub mod Walking
