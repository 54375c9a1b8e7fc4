pub mod Listing
pub mod Outcome
