-- Laws for the proofs of this crate, a file for each idea.
mod Following
mod Resized
mod Evicted
