pub mod Policies
pub mod Reading
