mod Finding
mod Separating
mod Spans
mod Parts
