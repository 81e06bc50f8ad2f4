pub mod Placed
pub mod Listed
pub mod GoingBack
pub mod Recipes
pub mod Asked
pub mod Serving
pub mod Opening
