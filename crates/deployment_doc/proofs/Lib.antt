mod Alike
mod Digests
mod Merging
mod Nodes
mod Rows
mod Singles
pub mod Soundness
