pub mod Shown
pub mod WholeNodes
pub mod Directories
pub mod RowTests
pub mod Opening
pub mod Found
pub mod Reading
