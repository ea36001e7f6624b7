pub mod Common
pub mod InTurn
pub mod Granted
pub mod BareGaps
