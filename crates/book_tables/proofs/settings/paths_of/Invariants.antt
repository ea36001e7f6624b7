use Rattle.book_tables.proofs.Common.{string_bytes}
use Rattle.book_tables.proofs.PushedItems.{AreOnTheWay}
use Rattle.book_tables.proofs.settings.paths_of.Given as goal

-- the paths so far and the principals to come are those of the list
abbrev pub invariant-principals : goal.invariant-principals
invariant-principals l = AreOnTheWay string_bytes (λ p. p) l.fn.principals l.paths.items l.principal-index
