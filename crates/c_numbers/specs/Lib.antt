pub mod Head
pub mod Put
