pub mod RulingVerdicts
pub mod Whys
pub mod Lines
pub mod Questions
pub mod Who
