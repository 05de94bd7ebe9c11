-- The definitions of this crate: words of trees, the near keys of sheets and the stray keys of netlists.
pub use Rattle.itv_base.specs.Range
pub use Rattle.serde_json.specs.Data
pub use Rattle.serde_json.specs.Find
pub use Rattle.serde_json.specs.View
pub mod Words
pub mod Pairs
pub use Rattle.serde_json.specs.View
pub mod NearKeys
pub mod StrayKeys
