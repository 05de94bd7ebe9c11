-- The modules of definitions of this crate, and modules of other crates that its contracts need.
pub use Rattle.itv_base.specs.Range
pub use Rattle.itv_base.specs.Reading
pub use Rattle.label_grammar.specs.Label
pub use Rattle.label_grammar.specs.Wire
pub use Rattle.json_tree.specs.Words
pub use Rattle.json_tree.specs.StrayKeys
pub use Rattle.serde_json.specs.Data
pub use Rattle.serde_json.specs.Find
pub use Rattle.serde_json.specs.View
pub mod NetlistContents
pub mod Fault
pub mod Netlist
pub mod Whole
