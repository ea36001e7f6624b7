use Rattle.book_tables.proofs.Common.{◌≡◌, true, false, List, map, Err, refl, state, State, Office, adoption_of, taken_over, bare, Inside, ReadsInside, Adopt, Place, Joined, placed_row, listed_row, joined, AreDifferences, inside_of}
use Rattle.book_office.specs.declared.keepers.StoreFault.TheVariants.{Memory}
use Rattle.book_tables_rows.specs.Adopting.{Listed, adopting}
use Rattle.book_tables_rows.specs.Reach.{pair_said}
use Rattle.book_tables_rows.specs.Writes.{Pair}
use Rattle.book_tables.specs.Reach.{Renews}
use Rattle.book_tables.proofs.AdoptedOffices.{Changes, adopts_policy, told_stays, told_changes}
use Rattle.book_tables.proofs.ReadActing.{read_then_edited, read_then_rested, read_fails_edit}
use Rattle.book_tables.proofs.Readings.{then_gives_up}
use Rattle.book_tables.proofs.adopting.adopt.Goals as goal

abbrev Told : Office → Office → Type 0
Told o office = office ≡ bare o

pub returns-in_err-office-clause-edits : goal.returns-in_err-office-clause-edits
returns-in_err-office-clause-edits g c =
    let old : Inside = inside_of (state g.S.Store c.args.transaction.now.conn.now) c.args.failures.now in
    let mid : Inside = inside_of (state g.S.Store c.bare_office.new.transaction.conn.now) c.bare_office.new.failures in
    read_fails_edit old mid c.in_err-office.field-0.0 c.from_residual.result (Adopt c.args.policy.now) Told c.from_residual.ensures.1 c.in_err-office.ensures.reads

pub returns-in_err-written-clause-edits : goal.returns-in_err-written-clause-edits
returns-in_err-written-clause-edits g c =
    let old : Inside = inside_of (state g.S.Store c.args.transaction.now.conn.now) c.args.failures.now in
    let mid : Inside = inside_of (state g.S.Store c.bare_office.new.transaction.conn.now) c.bare_office.new.failures in
    let fails : ReadsInside {A = Office} old mid (Err Memory) Told = then_gives_up old mid c.in_ok-office.office Told c.in_ok-office.ensures.reads Told Memory mid.failures refl in
    read_fails_edit old mid Memory c.from_residual-in_err-written.result (Adopt c.args.policy.now) Told c.from_residual-in_err-written.ensures.1 fails

pub returns-in-Some-clause-edits : goal.returns-in-Some-clause-edits
returns-in-Some-clause-edits g c =
    let old : Inside = inside_of (state g.S.Store c.args.transaction.now.conn.now) c.args.failures.now in
    let mid : Inside = inside_of (state g.S.Store c.bare_office.new.transaction.conn.now) c.bare_office.new.failures in
    let new : State = state g.S.Store c.write.new.transaction.conn.now in
    let t = c.args.policy.now in
    let office = c.in_ok-office.office in
    let written = c.in-Some.written in
    let places : List Place = map placed_row written.places.items in
    let lists : List Listed = map listed_row written.lists.items in
    let groups : List Joined = map joined written.groups.items in
    let gone : List Pair = map pair_said written.renewal.gone.items in
    let come : List Pair = map pair_said written.renewal.come.items in
    let told : ((adoption_of t office).changed ≡ true) × AreDifferences office (bare (taken_over t office)) places lists groups × Renews office.pairs (bare (taken_over t office)).pairs gone come = rw c.in-Some.is at c.in_ok-written.ensures in
    let known : (o : Office) → Told o office → Changes t places lists groups gone come o = λ o e. told_changes t o office e told.0 places lists groups gone come told.1 told.2 in
    read_then_edited (Adopt t) old mid office Told c.in_ok-office.ensures.reads new c.write.ensures.survives c.write.ensures.kept
    (adopting places lists groups gone come) (Changes t places lists groups gone come) (adopts_policy t places lists groups gone come) known
    c.write.new.failures c.write.result c.write.ensures.counted c.write.ensures.done

pub returns-in-None-clause-edits : goal.returns-in-None-clause-edits
returns-in-None-clause-edits g c =
    let old : Inside = inside_of (state g.S.Store c.args.transaction.now.conn.now) c.args.failures.now in
    let mid : Inside = inside_of (state g.S.Store c.bare_office.new.transaction.conn.now) c.bare_office.new.failures in
    let new : State = state g.S.Store c.stay.new.transaction.conn.now in
    let t = c.args.policy.now in
    let office = c.in_ok-office.office in
    let unchanged : (adoption_of t office).changed ≡ false = rw c.in-None.is at c.in_ok-written.ensures in
    read_then_rested (Adopt t) old mid office Told c.in_ok-office.ensures.reads new c.stay.ensures.survives c.stay.ensures.kept
    (λ o e. told_stays t o office e unchanged) c.stay.new.failures c.stay.result c.stay.ensures.counted c.stay.ensures.rested
