pub mod Texts
pub mod Foreseeing
pub mod Drafts
pub mod Kept
pub mod Spelling
pub mod Settling
pub mod Adoptions
pub mod Rounds
