pub mod Adopting
pub mod Laws
pub mod Sameness
pub mod TakingOver
