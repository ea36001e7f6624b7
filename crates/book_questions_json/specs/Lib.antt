pub mod Facts
pub mod Words
pub mod Objects
pub mod Telling
pub mod Held
pub mod HeldBlocks
pub mod Laws
