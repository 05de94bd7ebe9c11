-- The definitions of this crate: what callers of `run` know, and laws on what the jobs write.
pub mod Clients
pub mod Laws
