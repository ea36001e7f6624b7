pub mod Comparing
pub mod Parties
pub mod Places
pub mod Forces
pub mod Pairs
pub mod Lines
pub mod Differences
pub mod Laws
