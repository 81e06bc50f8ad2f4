pub mod Calls
pub mod History
pub mod Lines
pub mod Memory
pub mod Placed
pub mod Trays
