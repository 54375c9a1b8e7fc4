pub mod Framing
pub mod Depending
