pub mod Logs
pub mod Rounds
pub mod Serving
