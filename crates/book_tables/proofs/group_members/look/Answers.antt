use Rattle.book_tables.proofs.Common.{rules, ◌≡◌, subst, HasCleanDisk, state, Memberships, Office}
use Rattle.book_tables.specs.Groups.{ShowsPairsAt}
use Rattle.book_tables.specs.Searching.{ArePairsAt}
use Rattle.book_tables.proofs.Told.{read_made}
use Rattle.book_tables.proofs.GroupsTold.{pairs_are_at}
use Rattle.book_tables.proofs.group_members.look.Goals as goal

pub returns-in-Ok-clause-reads : goal.returns-in-Ok-clause-reads
returns-in-Ok-clause-reads g c =
    let old = state g.S.Store c.args.transaction.now.conn.now in
    let new = state g.S.Store c.shown_at.new.transaction.conn.now in
    let way = c.args.way in
    let at = c.args.at.now in
    let named : c.text.result.now ≡ at = search rules in
    let shows : HasCleanDisk new → ShowsPairsAt old way at c.in-Ok.pairs = λ h. subst (λ t. ShowsPairsAt old way t c.in-Ok.pairs) named (c.in-Ok.ensures.found h) in
    read_made old new c.shown_at.ensures.survives c.shown_at.ensures.kept c.args.failures.now c.in-Ok.pairs (λ (o : Office) (pairs : Memberships). ArePairsAt o.pairs way at pairs) c.in-Ok.ensures.stays (λ h o stands. pairs_are_at way at old c.in-Ok.pairs (shows h) o stands)
