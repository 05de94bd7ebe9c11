pub mod Lining
mod Gathering
mod Looking
mod Whole
