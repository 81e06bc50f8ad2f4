pub mod Numbers
pub mod Variables
