pub mod All
pub mod Record
pub mod Entry
pub mod Cache
