mod Calls
mod Closed
mod Named
mod Picks
mod Room
mod Sorting
mod Wider
