pub mod Common
pub mod Left
