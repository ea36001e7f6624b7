pub mod FaultNames
pub mod Shapes
pub mod Rules
pub mod Passes
pub mod Agreement
