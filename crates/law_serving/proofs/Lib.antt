pub mod Records
pub mod Running
pub mod Going
pub mod Alike
