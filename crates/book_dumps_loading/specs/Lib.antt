pub mod Comparing
pub mod Faults
pub mod Loading
