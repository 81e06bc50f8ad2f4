mod Ascii
pub mod Leading
pub mod Lists
mod PointerParts
pub mod Tables
