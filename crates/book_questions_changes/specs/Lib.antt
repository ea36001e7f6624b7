pub mod Facts
pub mod Members
pub mod Changes
pub mod Laws
