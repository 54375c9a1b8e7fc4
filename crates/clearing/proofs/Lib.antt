-- Laws for the proofs of this crate, a file for each idea.
mod Turns
mod Hindered
mod Handles
mod Emptied
