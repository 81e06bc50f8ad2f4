mod Free
mod Moments
mod Handing
mod Recipes
