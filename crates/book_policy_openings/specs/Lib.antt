pub mod Steps
pub mod Openings
pub mod Gains
