pub mod PinLists
pub mod NetSteps
pub mod NetlistSteps
pub mod WholeNetlists
pub mod SheetNames
