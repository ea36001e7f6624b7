pub mod Reading
pub mod Tallies
pub mod Denials
pub mod Laws
