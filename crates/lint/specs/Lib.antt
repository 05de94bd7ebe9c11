-- The modules of definitions of this crate, and modules of other crates that its contracts need.
pub use Rattle.design_plan.specs.Notes
pub use Rattle.design_plan.specs.Plan
pub use Rattle.compose.specs.Compose
pub use Rattle.compose.specs.Joins
pub mod Lists
pub mod Words
pub mod Kinds
pub mod Texts
pub mod Leads
pub mod Rules
pub mod Never
pub mod Periods
pub mod Driven
pub mod Units
pub mod Warnings
pub mod Step
