pub mod Names
pub mod Index
pub mod Listed
