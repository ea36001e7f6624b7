pub mod Naming
pub mod Standing
pub mod Comparing
pub mod Knowing
pub mod Putting
pub mod Restoring
pub mod Laws
