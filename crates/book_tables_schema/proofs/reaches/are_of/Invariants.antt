use Rattle.std.proofs.Common.{◌≡◌, take}
use Rattle.std.specs.List.{AllByRecursion}
use Rattle.book_tables_schema.proofs.reaches.are_of.Given as goal

-- the indexes so far are of the table
abbrev pub invariant-loop-index : goal.invariant-loop-index
invariant-loop-index l = AllByRecursion (λ i. i.table ≡ l.tree) (take l.index-index l.indexes)
