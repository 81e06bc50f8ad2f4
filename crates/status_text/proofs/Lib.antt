mod Joining
mod StatusDepth
mod StatusOrder
mod Texts
