-- The definitions of this crate, module by module: right reports, checked reports, and what they say.
pub mod Right
pub mod RowTally
pub mod Shown
pub mod Checked
pub mod Wrong
pub mod Texts
pub mod ReportContents
pub mod Writing
pub mod Laws
pub mod Step
