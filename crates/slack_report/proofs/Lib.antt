pub mod RangeWord
pub mod WordLaws
pub mod LineLaws
pub mod Standing
pub mod PlainLines
pub mod Finishing
pub mod Walking
pub mod Judging
mod Printing
mod Gathering
pub mod SetLoop
