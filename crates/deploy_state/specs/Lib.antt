pub mod Owned
pub mod States
pub mod Fields
pub mod Loading
pub mod Turning
pub mod Accepting
pub mod Mute
pub mod Objects
