-- Laws for the proofs of this crate, a file for each idea.
mod Places
mod Chosen
mod Remaining
mod Progress
