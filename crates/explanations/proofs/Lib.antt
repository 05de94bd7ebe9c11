pub mod Wider
pub mod Shown
pub mod Behind
pub mod Standing
pub mod Lanes
pub mod Settling
