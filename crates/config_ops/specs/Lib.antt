pub mod Join
pub mod Laws
pub mod NewConfig
pub mod Places
pub mod Reset
