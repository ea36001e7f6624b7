pub mod Names
pub mod Findings
pub mod Lines
pub mod Examining
