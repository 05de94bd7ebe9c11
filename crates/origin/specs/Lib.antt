-- The definitions of this crate: the text of an origin, which origins keep marks in order, and what a keeper of notes gives.
pub mod Text
pub mod Order
pub use Rattle.origin.specs.Text
pub mod NotesKept
