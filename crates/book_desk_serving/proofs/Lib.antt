pub mod Common
pub mod Alike
pub mod Behind
pub mod InTurn
pub mod AtOnce
