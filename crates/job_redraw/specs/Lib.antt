-- The definitions of this crate, module by module: the first failed row of a report, and what job redraw answers.
pub mod Failed
pub mod Redraw
pub mod Step
pub mod Laws
