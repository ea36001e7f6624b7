pub mod Common
pub mod Folds
pub mod Faults
pub mod Lists
pub mod Members
pub mod Names
pub mod Paths
