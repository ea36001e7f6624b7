pub mod Times
pub mod Words
pub mod Lines
pub mod Laws
