use Rattle.book_tables.proofs.Common.{◌≡◌, state, Memberships, Office}
use Rattle.book_tables.proofs.Told.{read_made}
use Rattle.book_tables.proofs.PairsTold.{pairs_are}
use Rattle.book_tables.proofs.members.pairs.Goals as goal

pub returns-in-Ok-clause-reads : goal.returns-in-Ok-clause-reads
returns-in-Ok-clause-reads g c =
    let old = state g.S.Store c.args.transaction.now.conn.now in
    let new = state g.S.Store c.shown_pairs.new.transaction.conn.now in
    read_made old new c.shown_pairs.ensures.survives c.shown_pairs.ensures.kept c.args.failures.now c.in-Ok.pairs (λ (o : Office) (pairs : Memberships). pairs ≡ o.pairs) c.in-Ok.ensures.stays (λ h o stands. pairs_are old c.in-Ok.pairs (c.in-Ok.ensures.found h) o stands)
