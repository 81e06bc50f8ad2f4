mod Finding
mod Rooting
