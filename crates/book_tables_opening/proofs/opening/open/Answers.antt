use Rattle.book_tables_opening.proofs.Common.{subst, state}
use Rattle.std.proofs.lemmas.Result.{IfErr-weaker, IfOk-weaker}
use Rattle.book_tables_opening.specs.Reading.{FaultSaysOf, IsReopened, IsUnopened, SameRows, StandForNone, StandsAsBefore}
use Rattle.book_tables_schema.proofs.LeftConnections.{connection_weaker, store_weaker}
use Rattle.book_tables_opening.proofs.OpenedTables.{connected_weaker}
use Rattle.book_tables_opening.proofs.opening.open.Goals as goal

pub returns-in-Ok-clause-stands : goal.returns-in-Ok-clause-stands
returns-in-Ok-clause-stands g c =
    let reopened : IsReopened (state g.S.Store c.in-Ok.opened) = λ clean. ((c.in-Ok.ensures.opens clean).0, c.in-Ok.ensures.tabled clean) in
    IfOk-weaker c.open_again.result _ _
    (λ t opened clean. let x = opened clean in subst (λ trees. StandsAsBefore trees (state g.S.Store t.connection)) (c.in-Ok.ensures.same x.0) x.1.stands)
    (c.open_again.ensures.stands reopened)

pub returns-in-Ok-clause-same : goal.returns-in-Ok-clause-same
returns-in-Ok-clause-same g c =
    let reopened : IsReopened (state g.S.Store c.in-Ok.opened) = λ clean. ((c.in-Ok.ensures.opens clean).0, c.in-Ok.ensures.tabled clean) in
    IfOk-weaker c.open_again.result _ _
    (λ t opened clean. let x = opened clean in subst (λ trees. SameRows trees (state g.S.Store t.connection).now.trees) (c.in-Ok.ensures.same x.0) x.1.same)
    (c.open_again.ensures.stands reopened)

pub returns-in-Ok-clause-refused : goal.returns-in-Ok-clause-refused
returns-in-Ok-clause-refused g c =
    let reopened : IsReopened (state g.S.Store c.in-Ok.opened) = λ clean. ((c.in-Ok.ensures.opens clean).0, c.in-Ok.ensures.tabled clean) in
    IfErr-weaker c.open_again.result _ _
    (λ e told refused. connected_weaker _ _ e.1 (λ k none clean. let x = none clean in subst StandForNone (c.in-Ok.ensures.same x.0) x.1) (told refused))
    (c.open_again.ensures.refused reopened)

pub returns-in-Ok-clause-other : goal.returns-in-Ok-clause-other
returns-in-Ok-clause-other g c =
    let reopened : IsReopened (state g.S.Store c.in-Ok.opened) = λ clean. ((c.in-Ok.ensures.opens clean).0, c.in-Ok.ensures.tabled clean) in
    IfErr-weaker c.open_again.result _ _
    (λ e told refused. connected_weaker _ _ e.1 (λ k says clean. let x = says clean in subst (λ trees. FaultSaysOf 2 trees e.0) (c.in-Ok.ensures.same x.0) x.1) (told refused))
    (c.open_again.ensures.other reopened)

pub returns-in-Ok-clause-kept : goal.returns-in-Ok-clause-kept
returns-in-Ok-clause-kept g c =
    let reopened : IsReopened (state g.S.Store c.in-Ok.opened) = λ clean. ((c.in-Ok.ensures.opens clean).0, c.in-Ok.ensures.tabled clean) in
    IfErr-weaker c.open_again.result _ _
    (λ e kept. connection_weaker _ _ e.1 (λ k left clean. let x = left clean in subst (λ trees. IsUnopened trees (state g.S.Store k)) (c.in-Ok.ensures.same x.0) x.1) kept)
    (c.open_again.ensures.kept reopened)

pub returns-in-Ok-clause-unharmed : goal.returns-in-Ok-clause-unharmed
returns-in-Ok-clause-unharmed g c =
    IfErr-weaker c.open_again.result _ _ (λ e none. store_weaker _ _ e.1 (λ s never. absurd never) none) c.open_again.ensures.connected
