pub mod Made
pub mod KeptFew
pub mod KeptBusy
pub mod KeptRuns
pub mod KeptRun
pub mod KeptBare
pub mod KeptAsks
pub mod KeptWaits
pub mod KeptTakes
mod KeptBroken
mod KeptOwed
mod KeptCounts
pub mod Lists
pub mod Reached
pub mod Items
pub mod KeptLaunch
pub mod Alone
pub mod Counts
pub mod Together
pub mod Answered
pub mod Gone
pub mod Moved
pub mod Begun
mod Told
pub mod Steadied
pub mod Changed
pub mod Placed
pub mod Stopped
mod Recipes
mod Small
mod Ready
mod Replaced
