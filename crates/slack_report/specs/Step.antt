-- Words of private contracts.
pub mod Within
pub mod Cuts
pub mod Answers
pub mod Printed
pub mod Answer
pub mod Items
