use Rattle.book_tables.proofs.settling.wanted_of.Goals as goal

pub returns : goal.returns
returns c = (c.in_ok-pairs.pairs, c.in_ok-pairs.ensures, c.in_ok-reach_of.ensures)
