use Rattle.book_tables.proofs.Common.{state, Office}
use Rattle.book_lists.specs.Callers.{IsCircle}
use Rattle.book_lists.specs.Circles.{CircleOf}
use Rattle.book_tables.proofs.ReachedGroups.{circle_told}
use Rattle.book_tables.proofs.Told.{read_made}
use Rattle.book_tables.proofs.members.circle.Goals as goal

pub returns-in-Ok-clause-reads : goal.returns-in-Ok-clause-reads
returns-in-Ok-clause-reads g c =
    let old = state g.S.Store c.args.transaction.now.conn.now in
    let new = state g.S.Store c.shown_circle.new.transaction.conn.now in
    let caller = c.args.caller.now in
    let circle = c.in-Ok.circle in
    read_made old new c.shown_circle.ensures.survives c.shown_circle.ensures.kept c.args.failures.now circle (λ (o : Office) (circle : CircleOf). IsCircle o.pairs caller circle) c.in-Ok.ensures.stays (λ h o stands. circle_told old caller circle (c.in-Ok.ensures.shown h) o stands)
