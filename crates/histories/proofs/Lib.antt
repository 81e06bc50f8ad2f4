pub mod Joined
pub mod Once
pub mod Ready
