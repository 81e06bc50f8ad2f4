pub mod Opened
pub mod Turning
pub mod Finding
pub mod Looking
