pub mod Copied
pub mod InTurn
pub mod BareOffices
