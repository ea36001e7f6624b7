use Rattle.book_tables.proofs.Common.{◌≡◌, state, Office, lists_at, Lists}
use Rattle.book_tables.proofs.Told.{read_made}
use Rattle.book_tables.proofs.LevelsTold.{lists_are}
use Rattle.book_tables.proofs.levels.lists.Goals as goal

pub returns-in-Ok-clause-reads : goal.returns-in-Ok-clause-reads
returns-in-Ok-clause-reads g c =
    let old = state g.S.Store c.args.transaction.now.conn.now in
    let new = state g.S.Store c.levels_of.new.transaction.conn.now in
    let p = c.args.path.now in
    read_made old new c.levels_of.ensures.survives c.levels_of.ensures.kept c.args.failures.now c.in-Ok.lists (λ (o : Office) (lists : Lists). lists ≡ lists_at o p) c.in-Ok.ensures.stays (λ h o stands. lists_are old p c.known.ensures c.in-Ok.lists (c.in-Ok.ensures.shown h) o stands)
