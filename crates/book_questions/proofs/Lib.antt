pub mod Common
pub mod InTurn
pub mod RuledVerdicts
pub mod WhyTold
pub mod Earliest
pub mod WhoIs
