mod ShownMasks
mod CopyTexts
mod CopiedRows
mod FirstMeta
mod Renewals
mod Reorderings
