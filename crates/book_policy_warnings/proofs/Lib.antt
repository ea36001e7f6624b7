pub mod ToldPolicies
pub mod FirstLines
