use Rattle.book_tables.proofs.Common.{◌≡◌, ◌++◌, map, take, removed_shown}
use Rattle.book_tables.proofs.changes.push_removed.Given as goal

-- the changes of the rows so far are added
abbrev pub invariant-names : goal.invariant-names
invariant-names l = l.changes.items ≡ l.fn.changes.items ++ map removed_shown (take l.row-index l.rows)
