use Rattle.book_tables_opening.proofs.Common.{arith, sym, subst, state, HasCleanDisk}
use Rattle.book_tables_opening.specs.Reading.{IsOpened, IsStanding, StandingSays}
use Rattle.book_tables_opening.proofs.OpenedTables as tables
use Rattle.book_tables_opening.proofs.opening.open_again.Goals as goal

pub returns-in-Ok-Whole-clause-stands : goal.returns-in-Ok-Whole-clause-stands
returns-in-Ok-Whole-clause-stands g c reopened clean_over =
    let old = state g.S.Store c.args.connection in
    let new = state g.S.Store c.standing_of.new.connection in
    let clean : HasCleanDisk new = subst (λ k. HasCleanDisk (state g.S.Store k)) c.over.ensures.connection clean_over in
    let was : HasCleanDisk old = omega (arith, clean, c.standing_of.ensures.left.clean) in
    let both = reopened was in (
      was,
      subst (λ k. IsOpened old.now.trees (state g.S.Store k)) (sym c.over.ensures.connection)
          (tables.opened old new c.standing_of.ensures.left clean both.0 both.1 (g.met.S.Store.settled c.args.connection.store)
          (subst (IsStanding old new) c.in-Ok-Whole.field-0-is (c.in-Ok-Whole.ensures.told clean)) (g.met.S.Store.settled c.standing_of.new.connection.store)),
    )

pub returns-in-Ok-Other-clause-refused : goal.returns-in-Ok-Other-clause-refused
returns-in-Ok-Other-clause-refused g c reopened refused clean =
    let old = state g.S.Store c.args.connection in
    let new = state g.S.Store c.standing_of.new.connection in
    let was : HasCleanDisk old = omega (arith, clean, c.standing_of.ensures.left.clean) in
    let both = reopened was in
    (was, tables.refused old new (subst (IsStanding old new) c.in-Ok-Other.field-0-is (c.in-Ok-Other.ensures.told clean)) both.1)

pub returns-in-Ok-Broken-clause-refused : goal.returns-in-Ok-Broken-clause-refused
returns-in-Ok-Broken-clause-refused g c reopened refused clean =
    let old = state g.S.Store c.args.connection in
    let new = state g.S.Store c.standing_of.new.connection in
    let was : HasCleanDisk old = omega (arith, clean, c.standing_of.ensures.left.clean) in
    let both = reopened was in
    (was, tables.refused old new (subst (IsStanding old new) c.in-Ok-Broken.field-0-is (c.in-Ok-Broken.ensures.told clean)) both.1)

pub returns-in-Ok-Other-clause-kept : goal.returns-in-Ok-Other-clause-kept
returns-in-Ok-Other-clause-kept g c reopened clean =
    let old = state g.S.Store c.args.connection in
    let new = state g.S.Store c.standing_of.new.connection in
    let was : HasCleanDisk old = omega (arith, clean, c.standing_of.ensures.left.clean) in
    let both = reopened was in
    (was, tables.unopened old new c.standing_of.ensures.left clean both.0 both.1 (g.met.S.Store.settled c.args.connection.store) (subst (IsStanding old new) c.in-Ok-Other.field-0-is (c.in-Ok-Other.ensures.told clean)).0)

pub returns-in-Ok-Broken-clause-kept : goal.returns-in-Ok-Broken-clause-kept
returns-in-Ok-Broken-clause-kept g c reopened clean =
    let old = state g.S.Store c.args.connection in
    let new = state g.S.Store c.standing_of.new.connection in
    let was : HasCleanDisk old = omega (arith, clean, c.standing_of.ensures.left.clean) in
    let both = reopened was in
    (was, tables.unopened old new c.standing_of.ensures.left clean both.0 both.1 (g.met.S.Store.settled c.args.connection.store) (subst (IsStanding old new) c.in-Ok-Broken.field-0-is (c.in-Ok-Broken.ensures.told clean)).0)

pub returns-in-Err-clause-kept : goal.returns-in-Err-clause-kept
returns-in-Err-clause-kept g c reopened clean =
    let old = state g.S.Store c.args.connection in
    let new = state g.S.Store c.standing_of.new.connection in
    let was : HasCleanDisk old = omega (arith, clean, c.standing_of.ensures.left.clean) in
    let both = reopened was in
    (was, tables.unopened old new c.standing_of.ensures.left clean both.0 both.1 (g.met.S.Store.settled c.args.connection.store) (c.in-Err.ensures.kept clean))

pub returns-in-Ok-Other-clause-other : goal.returns-in-Ok-Other-clause-other
returns-in-Ok-Other-clause-other g c reopened refused clean =
    let old = state g.S.Store c.args.connection in
    let was : HasCleanDisk old = omega (arith, clean, c.standing_of.ensures.left.clean) in
    let rise = (reopened was).1 in
    (was, record { schema = old.now.schema; listed = rise.rules; says = subst (StandingSays old.now) c.in-Ok-Other.field-0-is (c.in-Ok-Other.ensures.other clean) })

pub returns-in-Ok-Broken-clause-other : goal.returns-in-Ok-Broken-clause-other
returns-in-Ok-Broken-clause-other g c reopened refused clean =
    let old = state g.S.Store c.args.connection in
    let was : HasCleanDisk old = omega (arith, clean, c.standing_of.ensures.left.clean) in
    let rise = (reopened was).1 in
    (was, record { schema = old.now.schema; listed = rise.rules; says = subst (StandingSays old.now) c.in-Ok-Broken.field-0-is (c.in-Ok-Broken.ensures.other clean) })
