pub mod Common
pub mod Texts
pub mod LinesInTurn
pub mod Times
pub mod MembersToEnd
pub mod ObjectsAsJson
