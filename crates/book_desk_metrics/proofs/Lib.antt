pub mod Places
pub mod Numbers
pub mod Cells
pub mod Chains
pub mod CountedRounds
