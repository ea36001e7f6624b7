pub mod EntryLines
pub mod Audits
pub mod Laws
