pub mod Keys
pub mod Values
pub mod Placing
pub mod Known
pub mod Problems
pub mod Tables
pub mod Laws
