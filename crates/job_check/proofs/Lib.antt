pub mod Leading
pub mod Grouping
pub mod Taking
pub mod Rooting
pub mod Reaching
pub mod Placing
pub mod Judging
