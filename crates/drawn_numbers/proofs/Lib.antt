pub mod DrawnCauses
pub mod RangesSet
pub mod There
