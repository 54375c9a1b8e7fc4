pub mod Decides
pub mod Packing
