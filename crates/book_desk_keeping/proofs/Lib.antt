mod Common
mod Names
mod Leaving
mod SameOffices
mod LoadedTexts
mod RestoredDumps
