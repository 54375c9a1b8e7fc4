pub mod Exporting
pub mod Same
