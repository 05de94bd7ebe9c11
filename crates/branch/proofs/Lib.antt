mod Results
mod CaseCounts
pub mod SearchedLines
mod Endings
mod Advancing
mod Gaps
mod RaisingSets
mod Entering
mod Signs
mod UsableEdges
mod CaseLevels
mod BrokenSplits
mod ListWalks
mod GivenEdges
mod MetSplits
mod Looking
mod KnownTimes
pub mod Close
