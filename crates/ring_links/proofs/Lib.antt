pub mod Rings
pub mod Rows
pub mod Columns
