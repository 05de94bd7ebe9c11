-- The definitions of this crate: sessions, their runs along edits, and their laws.
pub mod KeeperLaws
pub mod Session
pub mod Runs
pub mod Laws
pub mod Step
