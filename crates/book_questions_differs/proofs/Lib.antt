pub mod Common
pub mod ReadsOfTwo
pub mod AlikePairs
pub mod Classes
pub mod Pairing
pub mod Holding
pub mod Everybody
pub mod EachTold
