pub mod Common
pub mod Elements
pub mod Zips
pub mod Alike
pub mod Classes
pub mod Grants
pub mod EachTold
