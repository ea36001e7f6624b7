pub mod Askers
pub mod Places
pub mod Gaps
pub mod Far
pub mod Finding
pub mod Lines
