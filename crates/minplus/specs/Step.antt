-- What the contracts of the steps to a closure say of matrices and rows.
pub mod Rows
pub mod Entries
pub mod Paths
pub mod PivotStage
pub mod Edges
