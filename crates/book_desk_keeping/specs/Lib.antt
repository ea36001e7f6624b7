pub mod Failures
pub mod Changes
pub mod Keeping
pub mod Restoring
