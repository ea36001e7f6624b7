pub mod Remembering
pub mod Rounds
