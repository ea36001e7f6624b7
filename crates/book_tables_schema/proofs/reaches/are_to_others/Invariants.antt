use Rattle.std.proofs.Common.{take}
use Rattle.std.specs.List.{AllByRecursion}
use Rattle.book_tables_schema.specs.OtherReach.{IsToOther}
use Rattle.book_tables_schema.proofs.reaches.are_to_others.Given as goal

-- the references so far are to others
abbrev pub invariant-loop-reference : goal.invariant-loop-reference
invariant-loop-reference l = AllByRecursion IsToOther (take l.reference-index l.references)
