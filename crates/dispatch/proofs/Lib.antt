pub mod Running
pub mod Made
