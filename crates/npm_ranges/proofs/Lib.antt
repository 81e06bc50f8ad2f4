mod Ascii
mod Faultless
mod Holding
mod Intervals
mod Partials
mod Reading
mod Spellings
mod Splitting
mod VersionOrders
pub mod VersionTexts
