mod Admission
mod Presents
pub mod Names
mod Renewal
mod Keys
mod Tests
