pub mod Common
pub mod Linking
pub mod Steps
pub mod Determined
pub mod Views
pub mod FoundMembers
pub mod NamedEntries
