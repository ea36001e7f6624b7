pub mod Cuts
pub mod Heads
pub mod Sending
pub mod Texts
pub mod Utf8
