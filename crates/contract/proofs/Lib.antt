pub mod Calling
pub mod Quiet
pub mod Same
pub mod Refused
pub mod Eviction
pub mod Following
pub mod Ledger
