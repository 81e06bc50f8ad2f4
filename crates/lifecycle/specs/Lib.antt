pub mod Awaits
pub mod Laws
pub mod Life
pub mod Table
