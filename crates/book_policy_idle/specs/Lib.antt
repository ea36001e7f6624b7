pub mod Idle
pub mod Marks
pub mod Alike
pub mod Reasons
pub mod Told
