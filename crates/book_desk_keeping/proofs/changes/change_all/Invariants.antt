use Rattle.std.proofs.Common.{◌≡◌, fold, take}
use Rattle.book_desk_keeping.specs.Changes.{changed_further}
use Rattle.book_desk_keeping.proofs.changes.change_all.Given as goal

abbrev pub invariant-loop-change : goal.invariant-loop-change
invariant-loop-change l = l.made ≡ fold changed_further l.initial.made (take l.change-index l.changes)
