-- Laws for the proofs of this crate and, in Parts, for its callers.
pub mod Parts
mod Counts
mod Walking
mod Needing
mod Selecting
mod Answering
mod Spilling
