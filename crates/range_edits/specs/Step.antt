-- Words of private contracts.
pub mod Named
