-- Lemmas of this crate.
mod Cutting
mod Running
