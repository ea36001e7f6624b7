pub mod Tasks
pub mod Works
pub mod Streams
pub mod Runs
pub mod Preparing
pub mod Connections
pub mod AtOnce
