pub mod Standing
pub mod Replies
pub mod Effects
pub mod Laws
