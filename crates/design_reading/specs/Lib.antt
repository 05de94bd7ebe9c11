-- The modules of definitions of this crate, and modules of other crates that its contracts need.
pub use Rattle.itv_base.specs.Outside
pub use Rattle.serde_json.specs.View
pub mod RefusalPlace
pub mod Refusal
pub mod FileReading
pub mod Design
pub mod AskedFor
pub mod Step
