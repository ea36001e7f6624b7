pub mod Adoptions
pub mod Readings
mod Sums
