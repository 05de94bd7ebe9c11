-- The definitions of this crate: the text of job margin, what the job answers, and the numbers that a list names.
pub mod Text
pub mod Margin
pub mod Named
pub mod Step
