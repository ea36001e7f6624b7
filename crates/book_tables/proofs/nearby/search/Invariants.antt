use Rattle.std.proofs.Common.{Ok}
use Rattle.book_tables.specs.Inside.{ReadsInside}
use Rattle.book_office_values.specs.declared.offices.Office.{Office}
use Rattle.book_tables.specs.Searching.{Searches}
use Rattle.book_tables.specs.declared.searching.Search.{Search}
use Rattle.book_tables.proofs.nearby.search.Given as goal

-- the search has come so far
abbrev pub invariant-steps : goal.invariant-steps
invariant-steps g l = ReadsInside (g.D.Directs.inside l.fn.directs) (g.D.Directs.inside l.directs) (Ok l.search) (λ (o : Office) (s : Search). Searches o.pairs l.way l.fn.starts.items s)
