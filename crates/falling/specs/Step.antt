-- Words of private contracts.
pub mod Agenda
pub mod DerivationEnds
pub mod Kinds
pub mod Rays
pub mod Turns
pub mod Words
