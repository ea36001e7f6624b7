pub mod Bits
pub mod Numbering
pub mod Pairs
