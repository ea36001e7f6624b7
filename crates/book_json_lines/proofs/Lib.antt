pub mod Common
pub mod Written
pub mod Feeds
