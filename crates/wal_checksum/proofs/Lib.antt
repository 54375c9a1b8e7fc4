pub mod Agreeing
mod SameEqual
pub mod Shifting
mod Summing
mod Wrapping
