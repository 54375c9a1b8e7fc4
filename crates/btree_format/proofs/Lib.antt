pub mod Searching
pub mod Obeying
pub mod Once
pub mod FreeSpace
pub mod EmptyPage
