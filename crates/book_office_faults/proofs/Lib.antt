pub mod FusedEdits
pub mod FusedRounds
