use Rattle.book_tables.proofs.Common.{◌≡◌, ℕ, state, Office}
use Rattle.book_tables.proofs.Told.{read_made, epoch_told}
use Rattle.book_tables.proofs.reading.epoch.Goals as goal

pub returns-in-Ok-clause-reads : goal.returns-in-Ok-clause-reads
returns-in-Ok-clause-reads g c =
    let old = state g.S.Store c.args.transaction.now.conn.now in
    let new = state g.S.Store c.read_epoch.new.transaction.conn.now in
    read_made old new c.read_epoch.ensures.survives c.read_epoch.ensures.kept c.args.failures.now c.in-Ok.epoch (λ (o : Office) (epoch : ℕ). epoch ≡ o.epoch) c.in-Ok.ensures.stays (λ h o stands. epoch_told old c.in-Ok.epoch (c.in-Ok.ensures.found h) o stands)
