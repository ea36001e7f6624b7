pub mod Common
pub mod Floats
pub mod ToldFacts
pub mod ToldHeld
pub mod ToldWords
