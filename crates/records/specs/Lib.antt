pub mod Codec
pub mod Gives
pub mod Stored
pub mod Utf8
pub mod Layout
