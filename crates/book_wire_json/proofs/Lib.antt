pub mod Common
pub mod Utf8
pub mod Naming
pub mod Limits
pub mod EntryLists
pub mod Written
pub mod Ordered
pub mod Joined
