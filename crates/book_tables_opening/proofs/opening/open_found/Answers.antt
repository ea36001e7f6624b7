use Rattle.book_tables_opening.proofs.Common.{◌≡◌, ◌∙◌, ap, subst, state, HasCleanDisk}
use Rattle.std.proofs.lemmas.Result.{IfErr-weaker, IfOk-weaker}
use Rattle.sqlite.specs.Effect.{Database}
use Rattle.book_tables_opening.specs.Reading.{FaultSaysOf, IsUnopened, SameRows, StandForNone, StandsAsBefore}
use Rattle.book_tables_schema.proofs.LeftConnections.{connection_weaker}
use Rattle.book_tables_opening.proofs.OpenedTables.{connected_weaker, shows_committed}
use Rattle.book_tables_opening.proofs.opening.open_found.Goals as goal

pub returns-clause-stands : goal.returns-clause-stands
returns-clause-stands g c =
    let given = c.into_connection-connection.ensures in
    let was = shows_committed g.S.Store c.args.found c.into_connection-connection.result given.same given.found in
    IfOk-weaker c.open_again.result _ _
    (λ t opened clean. let x = opened clean in subst (λ trees. StandsAsBefore trees (state g.S.Store t.connection)) (was x.0) x.1.stands)
    (c.open_again.ensures.stands given.found)

pub returns-clause-same : goal.returns-clause-same
returns-clause-same g c =
    let given = c.into_connection-connection.ensures in
    let was = shows_committed g.S.Store c.args.found c.into_connection-connection.result given.same given.found in
    IfOk-weaker c.open_again.result _ _
    (λ t opened clean. let x = opened clean in subst (λ trees. SameRows trees (state g.S.Store t.connection).now.trees) (was x.0) x.1.same)
    (c.open_again.ensures.stands given.found)

pub returns-clause-refused : goal.returns-clause-refused
returns-clause-refused g c =
    let given = c.into_connection-connection.ensures in
    let was = shows_committed g.S.Store c.args.found c.into_connection-connection.result given.same given.found in
    IfErr-weaker c.open_again.result _ _
    (λ e told refused. connected_weaker _ _ e.1 (λ k none clean. let x = none clean in subst StandForNone (was x.0) x.1) (told refused))
    (c.open_again.ensures.refused given.found)

pub returns-clause-other : goal.returns-clause-other
returns-clause-other g c =
    let given = c.into_connection-connection.ensures in
    let was = shows_committed g.S.Store c.args.found c.into_connection-connection.result given.same given.found in
    IfErr-weaker c.open_again.result _ _
    (λ e told refused. connected_weaker _ _ e.1 (λ k says clean. let x = says clean in subst (λ trees. FaultSaysOf 2 trees e.0) (was x.0) x.1) (told refused))
    (c.open_again.ensures.other given.found)

pub returns-clause-kept : goal.returns-clause-kept
returns-clause-kept g c =
    let given = c.into_connection-connection.ensures in
    let was = shows_committed g.S.Store c.args.found c.into_connection-connection.result given.same given.found in
    IfErr-weaker c.open_again.result _ _
    (λ e kept. connection_weaker _ _ e.1 (λ k left clean. let x = left clean in subst (λ trees. IsUnopened trees (state g.S.Store k)) (was x.0) x.1) kept)
    (c.open_again.ensures.kept given.found)
