-- The modules of definitions of this crate.
pub mod Written
pub mod Reports
pub mod Step
pub mod Laws
