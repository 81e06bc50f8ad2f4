pub mod Ends
pub mod Real
pub mod Started
