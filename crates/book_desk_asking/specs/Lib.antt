pub mod Questions
pub mod Heads
pub mod Replies
pub mod Asking
