pub mod Stays
pub mod Laws
