pub mod Common
pub mod Doctored
