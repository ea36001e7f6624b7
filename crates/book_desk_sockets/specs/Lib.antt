pub mod Lines
pub mod Making
pub mod Places
