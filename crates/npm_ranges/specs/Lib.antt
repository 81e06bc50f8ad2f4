pub mod Grammar
pub mod Laws
pub mod OrderLaws
pub mod Ranges
pub mod Reading
pub mod Versions
pub mod Views
