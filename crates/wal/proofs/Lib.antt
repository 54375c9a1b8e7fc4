mod Reach
mod Descent
mod Filling
pub mod Placed
pub mod LastCommit
pub mod Reader
