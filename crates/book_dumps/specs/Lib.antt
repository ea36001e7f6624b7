pub mod Objects
pub mod Lines
pub mod Told
pub mod Dumps
pub mod Laws
pub mod Writing
