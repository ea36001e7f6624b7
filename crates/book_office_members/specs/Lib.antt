pub mod Steps
pub mod Reaching
pub mod Members
pub mod Names
