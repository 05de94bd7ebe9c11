mod Fails
mod ReadBack
mod Scanning
mod Answering
