pub mod Counting
pub mod Heads
pub mod Relist
pub mod Moves
