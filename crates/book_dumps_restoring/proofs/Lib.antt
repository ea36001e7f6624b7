pub mod Refusals
pub mod Staying
pub mod Ordered
