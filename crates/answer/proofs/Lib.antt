pub mod Once
pub mod Steps
pub mod Tested
