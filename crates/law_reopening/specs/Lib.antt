pub mod Failed
pub mod Reopened
