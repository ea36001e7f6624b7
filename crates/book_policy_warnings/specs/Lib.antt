pub mod Warnings
pub mod Sentences
pub mod Telling
pub mod Laws
