pub mod Changing
pub mod Owners
pub mod Removals
pub mod Epochs
pub mod Leavers
pub mod Laws
