pub mod ManyConnections
pub mod Streams
pub mod Rounds
