pub mod Stated
pub mod Lines
pub mod Asking
pub mod Laws
