pub mod Noting
pub mod Tests
pub mod Told
