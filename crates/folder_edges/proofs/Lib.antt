mod Ending
mod Listed
mod Passing
mod Queueing
mod Reading
mod Sifting
mod Trying
mod Turns
