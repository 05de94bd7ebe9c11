-- The definitions of this crate, module by module: what the text of a drawing is read as.
pub mod ReadAgain
pub mod Chain
pub mod DesignAgain
