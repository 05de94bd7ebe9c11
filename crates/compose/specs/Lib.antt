-- The modules of definitions of this crate.
pub use Rattle.itv_base.specs.Range
pub use Rattle.itv_base.specs.Reading
pub use Rattle.sheet.specs.Links
pub mod Joins
pub mod Numbers
pub mod Design
pub mod Fault
pub mod Sheets
pub mod Nets
pub mod Wires
pub mod Compose
pub mod Step
