pub mod Keys
pub mod JoinLists
pub mod WireWalk
pub mod PartSheets
pub mod WholeDesigns
pub mod ComposeSteps
