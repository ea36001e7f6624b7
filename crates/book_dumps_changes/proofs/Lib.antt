pub mod Leaving
pub mod Ruling
pub mod Told
