pub mod Judging
pub mod Breaking
pub mod Distances
pub mod Rising
