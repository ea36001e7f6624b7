pub mod OneRuns
mod Leaving
pub mod Takes
