-- The modules of definitions of this crate.
pub use Rattle.label_grammar.specs.Edge
pub use Rattle.label_grammar.specs.Wire
pub use Rattle.compose.specs.Sheets
pub mod Plan
pub mod Notes
pub mod Step
