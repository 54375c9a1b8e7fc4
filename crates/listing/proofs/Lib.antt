pub mod Stores
pub mod Sweeping
pub mod Filling
pub mod Outcomes
