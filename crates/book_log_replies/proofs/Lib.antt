pub mod Common
pub mod Places
pub mod Naming
pub mod AskedEdits
pub mod TouchedCards
pub mod ToldChanges
