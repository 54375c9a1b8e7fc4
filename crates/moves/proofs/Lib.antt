pub mod Search
pub mod Placement
pub mod Removal
pub mod Change
pub mod Relisting
pub mod Replacement
