pub mod Memory
pub mod Holds
pub mod Walk
