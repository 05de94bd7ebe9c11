-- Right reports: which lines may follow in each state, and are right there, given the lines before them.
pub mod ReportState
pub mod Following
pub mod LineClaims
pub mod Order
