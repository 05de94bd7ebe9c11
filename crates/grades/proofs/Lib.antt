pub mod WholeGrades
pub mod Members
pub mod GradesSteps
