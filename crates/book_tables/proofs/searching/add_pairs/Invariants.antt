use Rattle.book_tables.proofs.SearchedPairs.{AreAdded}
use Rattle.book_tables.proofs.searching.add_pairs.Given as goal

-- the pairs so far were added
abbrev pub invariant-pairs : goal.invariant-pairs
invariant-pairs l = AreAdded l.way l.list l.pair-index l.fn.pairs l.pairs l.fn.work.items l.work.items
