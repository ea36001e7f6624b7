pub mod Answering
pub mod Copies
