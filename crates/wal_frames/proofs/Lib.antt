pub mod CutLog
pub mod Turns
