pub mod Ring
pub mod Links
