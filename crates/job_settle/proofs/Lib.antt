mod Moving
mod Raising
mod Judging
mod Answering
mod Gathering
mod Whole
mod Putting
