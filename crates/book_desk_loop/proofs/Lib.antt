pub mod Drops
pub mod Told
pub mod Steps
pub mod Serving
