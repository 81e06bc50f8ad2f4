pub mod Leaves
pub mod Loop
pub mod Codecs
pub mod Layouts
pub mod Pieces
