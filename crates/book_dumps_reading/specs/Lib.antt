pub mod Dumped
pub mod Faults
pub mod Reading
