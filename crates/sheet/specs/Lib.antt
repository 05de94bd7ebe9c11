-- The modules of definitions of this crate.
pub use Rattle.itv_base.specs.Range
pub use Rattle.itv_base.specs.Reading
pub use Rattle.label_grammar.specs.Label
pub use Rattle.label_grammar.specs.Edge
pub use Rattle.grades.specs.Grades
pub use Rattle.wavejson.specs.Drawing
pub mod Rule
pub mod SheetContents
pub mod Fault
pub mod Lanes
pub mod Links
pub mod Groups
pub mod Sheet
pub mod Whole
pub mod Step
