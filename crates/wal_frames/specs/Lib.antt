pub mod Scan
pub mod Cut
