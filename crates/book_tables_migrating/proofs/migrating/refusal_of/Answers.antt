use Rattle.std.proofs.Common.{◌≡◌, ℕ, Bool, true, false, sym, subst, IsTrue}
use Rattle.sqlite.specs.Held.{state}
use Rattle.sqlite.specs.State.{State}
use Rattle.book_tables_rows.specs.Steps.{Stays}
use Rattle.book_tables_opening.specs.Reading.{TellsOther}
use Rattle.book_tables_migrating.proofs.migrating.refusal_of.Goals as goal

-- what is told of tables holds where they stay
told_still : (version : ℕ) (old new : State) → Stays old new → IsTrue new.is_open → (other is : Bool) → other ≡ is → IsTrue old.is_open × TellsOther version old.now other → TellsOther version new.now is
told_still version old new stays open_now other is same told = subst (λ db. TellsOther version db is) (sym (stays open_now).1) (subst (TellsOther version old.now) same told.1)

pub returns-in-Ok-true-clause-says : goal.returns-in-Ok-true-clause-says
returns-in-Ok-true-clause-says g c clean open_now =
    told_still 1 (state g.S.Store c.args.connection.now) (state g.S.Store c.tells_other.new.connection) (c.tells_other.ensures.stays clean) open_now
    c.in-Ok-true.field-0 true c.in-Ok-true.field-0-test (c.in-Ok-true.ensures.told clean)

pub returns-in-Ok-false-clause-says : goal.returns-in-Ok-false-clause-says
returns-in-Ok-false-clause-says g c clean open_now =
    told_still 1 (state g.S.Store c.args.connection.now) (state g.S.Store c.tells_other.new.connection) (c.tells_other.ensures.stays clean) open_now
    c.in-Ok-false.field-0 false c.in-Ok-false.field-0-test (c.in-Ok-false.ensures.told clean)
