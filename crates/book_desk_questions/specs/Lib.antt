pub mod Asked
pub mod Failures
pub mod Answers
pub mod Dumping
pub mod Differing
