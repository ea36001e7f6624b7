mod MappedOffices
mod MappedLists
mod MappedRows
mod AlikeOffices
mod Rewritings
