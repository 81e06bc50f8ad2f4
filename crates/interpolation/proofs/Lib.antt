pub mod Alike
pub mod Cuttings
pub mod Pieces
pub mod Sizes
pub mod Words
