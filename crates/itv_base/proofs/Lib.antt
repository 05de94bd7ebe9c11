pub mod Faults
mod FilesByName
pub mod Written
pub mod Numbers
pub mod Numerals
pub mod Printed
pub mod Cuts
pub mod Lists
pub mod Ranges
pub mod Runs
mod Streams
pub mod Options
pub mod Bools
pub mod Integers
