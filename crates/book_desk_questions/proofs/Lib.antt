pub mod Common
pub mod Always
pub mod Ended
pub mod Names
