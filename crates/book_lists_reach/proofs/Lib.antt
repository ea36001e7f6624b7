pub mod Words
pub mod RowPairs
pub mod Through
pub mod Places
pub mod Listing
