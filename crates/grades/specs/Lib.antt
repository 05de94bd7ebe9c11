-- The modules of definitions of this crate.
pub use Rattle.itv_base.specs.Range
pub use Rattle.itv_base.specs.Reading
pub use Rattle.serde_json.specs.View
pub mod Fault
pub mod Grades
