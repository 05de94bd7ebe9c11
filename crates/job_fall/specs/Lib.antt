-- The modules of definitions of this crate.
pub mod View
pub mod FallText
pub mod Text
pub mod NotesLaws
pub mod Shows
pub mod Fall
pub mod Step
pub mod Laws
