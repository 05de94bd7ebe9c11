pub mod Pairs
pub mod CourseSteps
pub mod FoldedSteps
pub mod RowSteps
pub mod Bridges
pub mod Judging
pub mod Reaching
pub mod DesignRuns
