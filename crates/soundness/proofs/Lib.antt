pub mod Passes
pub mod Bits
pub mod Tally
pub mod Walking
pub mod Ordering
pub mod Counting
pub mod Joining
