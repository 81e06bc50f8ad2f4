pub mod Laws
pub mod Lines
pub mod Named
pub mod OneDocument
pub mod Reads
pub mod Reasons
pub mod Sound
pub mod Spelled
