pub mod Common
pub mod Audited
pub mod Gathering
pub mod ReadsInTurn
