pub mod LineLaws
pub mod Trees
