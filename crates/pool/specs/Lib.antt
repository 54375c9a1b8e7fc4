pub mod Decides
pub mod Slots
