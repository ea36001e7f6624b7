pub mod Objects
pub mod Lines
pub mod Laws
