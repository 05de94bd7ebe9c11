-- The modules of definitions of this crate.
pub mod Entry
pub mod Text
pub mod Order
pub mod Report
pub mod Reading
pub mod Items
pub mod Answer
pub mod Step
