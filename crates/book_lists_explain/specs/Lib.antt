pub mod FaultTexts
pub mod Lines
pub mod Questions
pub mod ShortNames
pub mod Answers
pub mod Explanations
