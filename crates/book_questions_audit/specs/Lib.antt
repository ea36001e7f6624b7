pub mod Parts
pub mod Lines
pub mod Telling
pub mod Laws
