pub mod Common
pub mod CardEdits
pub mod Kept
pub mod ListedCards
pub mod OneBook
pub mod OtherEdits
pub mod Readings
pub mod CachedRounds
