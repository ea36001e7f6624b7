pub mod Renewal
pub mod Reordering
