mod Finding
mod Looking
