pub mod Common
pub mod Histories
pub mod Places
pub mod Streams
pub mod Fed
