-- The definitions of this crate, module by module: windows of longer runs, and times that come again in each cycle.
pub mod Windows
pub mod WindowLaws
pub mod Periods
pub mod PeriodLaws
pub mod Folding
pub mod Always
