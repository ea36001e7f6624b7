pub mod Unavailable
pub mod Servings
pub mod KeptRuns
pub mod LentServings
pub mod MachineRounds
