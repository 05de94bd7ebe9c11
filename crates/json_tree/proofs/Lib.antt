pub mod Elements
pub mod ReadLists
pub mod KeySteps
