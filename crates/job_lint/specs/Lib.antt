-- The definitions of this crate, module by module: what is found, the lines, the text of job lint, and what it answers.
pub use Rattle.compose.specs.Compose
pub use Rattle.drawn_networks.specs.Drawn
pub use Rattle.explanations.specs.Answers
pub use Rattle.explanations.specs.Apart
pub use Rattle.narrow_ends.specs.Ends
pub use Rattle.narrow_ends.specs.Narrow
pub use Rattle.design_plan.specs.Notes
pub use Rattle.design_plan.specs.Plan
pub use Rattle.lint.specs.Warnings
pub mod Found
pub mod Lines
pub mod Text
pub mod Lint
pub mod Clean
pub mod Step
