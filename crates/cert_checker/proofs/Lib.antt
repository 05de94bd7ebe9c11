pub mod Deciding
pub mod Reading
pub mod ChosenCauses
pub mod Splitting
pub mod Walking
