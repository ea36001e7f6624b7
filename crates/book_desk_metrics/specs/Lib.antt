pub mod Counted
pub mod CountedRounds
pub mod Counting
pub mod Exposition
pub mod Timing
