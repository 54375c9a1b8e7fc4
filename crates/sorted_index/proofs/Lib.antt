-- Laws for the proofs of this crate and of those above it.
pub mod Names
pub mod Lists
pub mod Membership
pub mod Ascending
mod Bracket
mod Shifting
pub mod Listed
pub mod Once
