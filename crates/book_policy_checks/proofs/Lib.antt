pub mod Reported
pub mod Told
