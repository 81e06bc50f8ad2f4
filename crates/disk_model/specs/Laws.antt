-- Proofs that the disks in memory keep the laws of disks. What they prove is defined beside this folder.
pub mod Inside
pub mod MemoryLaws
pub mod Replay
