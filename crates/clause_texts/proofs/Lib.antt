pub mod Putting
pub mod WordLaws
pub mod LineLaws
pub mod Parting
pub mod OneMore
pub mod HeadingLaws
