pub mod Widen
pub mod Migrating
