pub mod Digits
pub mod Marking
pub mod Searching
pub mod Counting
