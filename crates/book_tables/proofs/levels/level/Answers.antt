use Rattle.book_tables.proofs.Common.{◌≡◌, subst, state, HasCleanDisk, Office}
use Rattle.book_office.specs.Levels.{level_at}
use Rattle.book_office.specs.declared.nodes.Level.{Level}
use Rattle.book_tables.specs.Levels.{ShowsLevel}
use Rattle.book_tables.proofs.Told.{read_made}
use Rattle.book_tables.proofs.LevelsTold.{level_is_at}
use Rattle.book_tables.proofs.levels.level.Goals as goal

pub returns-in-Ok-clause-reads : goal.returns-in-Ok-clause-reads
returns-in-Ok-clause-reads g c =
    let old = state g.S.Store c.args.transaction.now.conn.now in
    let new = state g.S.Store c.level_of.new.transaction.conn.now in
    let p = c.args.path.now in
    let shows : HasCleanDisk new → ShowsLevel old p c.in-Ok.level = λ h. subst (λ q. ShowsLevel old q c.in-Ok.level) c.in_ok-copy.ensures (c.in-Ok.ensures.shown h) in
    read_made old new c.level_of.ensures.survives c.level_of.ensures.kept c.args.failures.now c.in-Ok.level (λ (o : Office) (level : Level). level ≡ level_at o p) c.in-Ok.ensures.stays (λ h o stands. level_is_at old p c.known.ensures c.in-Ok.level (shows h) o stands)
