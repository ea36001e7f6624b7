pub mod KeptTogether
pub mod Leaving
pub mod Unpromised
