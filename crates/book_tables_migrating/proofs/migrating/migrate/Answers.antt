use Rattle.std.proofs.Common.{subst}
use Rattle.std.proofs.lemmas.Result.{IfOk-weaker}
use Rattle.sqlite.specs.Held.{state}
use Rattle.book_tables_opening.specs.Reading.{IsReopened}
use Rattle.book_tables_migrating.specs.Migrating.{IsUnmigrated, StandsMigrated}
use Rattle.book_tables_schema.proofs.LeftConnections.{connection_weaker, store_weaker}
use Rattle.book_tables_migrating.proofs.Rewritings.{if_err}
use Rattle.book_tables_migrating.proofs.migrating.migrate.Goals as goal

pub returns-in-Ok-clause-stands : goal.returns-in-Ok-clause-stands
returns-in-Ok-clause-stands g c =
    let reopened : IsReopened (state g.S.Store c.in-Ok.opened) = λ clean. ((c.in-Ok.ensures.opens clean).0, c.in-Ok.ensures.tabled clean) in
    IfOk-weaker c.migrate_again.result _ _
    (λ t h clean. let x = h clean in subst (λ trees. StandsMigrated trees (state g.S.Store t.0.connection) t.1) (c.in-Ok.ensures.same x.0) x.1)
    (c.migrate_again.ensures.stands reopened)

pub returns-in-Ok-clause-kept : goal.returns-in-Ok-clause-kept
returns-in-Ok-clause-kept g c =
    let reopened : IsReopened (state g.S.Store c.in-Ok.opened) = λ clean. ((c.in-Ok.ensures.opens clean).0, c.in-Ok.ensures.tabled clean) in
    if_err c.migrate_again.result _ _
    (λ e h. connection_weaker _ _ e.1 (λ k kept clean. let x = kept clean in subst (λ trees. IsUnmigrated trees (state g.S.Store k)) (c.in-Ok.ensures.same x.0) x.1) h)
    (c.migrate_again.ensures.kept reopened)

pub returns-in-Ok-clause-unharmed : goal.returns-in-Ok-clause-unharmed
returns-in-Ok-clause-unharmed g c =
    if_err c.migrate_again.result _ _ (λ e none. store_weaker _ _ e.1 (λ s never. absurd never) none) c.migrate_again.ensures.connected
