-- Words of private contracts.
pub mod Racing
