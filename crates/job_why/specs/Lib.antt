-- The definitions of this crate, module by module: the text of job why, and what it answers.
pub mod Text
pub mod Why
pub mod Step
