-- The definitions of this crate: the command line, and what words are taken for.
pub mod Command
pub mod Task
pub mod View
