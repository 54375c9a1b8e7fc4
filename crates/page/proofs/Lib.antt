pub mod Each
pub mod Limits
