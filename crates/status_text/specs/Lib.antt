pub mod Lists
pub mod Regularity
pub mod Status
pub mod Words
