pub mod Common
pub mod FirstRows
pub mod NodeRules
pub mod Broken
pub mod Found
pub mod Examined
