pub mod Opening
pub mod HeaderExamples
