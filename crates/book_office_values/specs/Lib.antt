pub mod Changes
pub mod Lending
pub mod Names
pub mod Paths
pub mod Fresh
pub mod Texts
