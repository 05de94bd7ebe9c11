-- The modules of definitions of this crate.
pub mod Words
pub mod Views
pub mod Numbers
pub mod Lines
pub mod Cuts
pub mod Buffer
pub mod Laws
