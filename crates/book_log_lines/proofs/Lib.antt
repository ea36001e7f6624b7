pub mod Common
pub mod LineLaws
