pub mod Mode
pub mod Admit
pub mod Present
pub mod Renew
pub mod Insert
