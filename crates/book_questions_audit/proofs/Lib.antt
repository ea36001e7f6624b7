pub mod Common
pub mod PartsTold
pub mod Printed
