pub mod Spelled
pub mod Appended
pub mod Fronts
pub mod Foreseen
pub mod ReadTurns
pub mod LoggedRounds
