pub mod Same
pub mod Asked
mod Applying
