pub mod Slaves
pub mod Depth
pub mod Floats
pub mod Filling
pub mod Lengths
