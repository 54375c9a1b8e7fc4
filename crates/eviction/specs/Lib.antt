pub mod Sweep
pub mod Evict
pub mod Room
