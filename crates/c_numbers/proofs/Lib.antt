pub mod Numbers
pub mod Hand
