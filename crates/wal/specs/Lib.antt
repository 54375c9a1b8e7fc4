pub mod Reading
pub mod Committed
