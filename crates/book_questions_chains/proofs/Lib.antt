pub mod Climbs
pub mod ChainLaws
