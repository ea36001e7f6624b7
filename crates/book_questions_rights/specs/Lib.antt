pub mod Askers
pub mod Places
pub mod EqualCards
pub mod Lines
pub mod Rights
pub mod Laws
