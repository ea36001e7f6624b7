-- Stores that get `reach`, or whose `reach` is written anew, in one transaction.
use Rattle.book_tables_opening.proofs.Common.{◌≡◌, Bool, true, false, [], Some, None, IsTrue, refl, sym, ap, subst, ◌∙◌, arith, Database, State, HasCleanDisk, rows_of, book_schema}
use Rattle.sqlite.specs.State.{Shows, Survives}
use Rattle.sqlite.specs.Tree.{Trees}
use Rattle.sqlite.proofs.StateLemmas.{survives_then}
use Rattle.book_office_values.specs.declared.offices.Office.{Office}
use Rattle.book_tables_rows.specs.Rows.{in_store}
use Rattle.book_tables_rows.specs.Schema.{ace_tree}
use Rattle.book_tables_schema.specs.Founding.{GetsDerived}
use Rattle.book_tables_schema.specs.declared.layout.Generation.TheVariants.{Second}
use Rattle.book_tables_schema.specs.Layout.{tables_of}
use Rattle.book_tables_schema.specs.OtherReach.{DropsDerived, IsBeside}
use Rattle.book_tables_schema.specs.Tabled.{IsTabled, book_of}
use Rattle.book_tables_schema.proofs.DroppedReach.{others_rise}
use Rattle.book_tables_schema.proofs.RisingRows.{tables_as}
use Rattle.book_tables_schema.proofs.Tabling.{kept_then}
use Rattle.book_tables.specs.Stands.{Gives, Stands}
use Rattle.book_tables.proofs.OneOffice.{base_of}
use Rattle.book_tables.proofs.RenewedReach.{gives_with_reach}
use Rattle.book_tables_opening.specs.Reading.{Commits, MakesAnew, MaySettle, RowsRise, Settled, StandsForOne, TellsOffice}

-- ---- `reach` is made anew

pub made_anew : (old between new : State) → DropsDerived old between → GetsDerived between new → MakesAnew old new
made_anew old between new drops gets = record {
  inside = gets.inside;
  was_open = drops.was_open;
  is_open = gets.is_open;
  made = λ beside rise.
      let dropped = drops.made Second beside rise in
      let got = gets.made dropped.0 in
      (got.0, kept_then old.now.trees between.now.trees new.now.trees (tables_of Second) dropped.1 got.1, got.2);
}

module _ (old mid : State) (gets : MakesAnew old mid) (beside : IsBeside Second old.now.schema) (rise : RowsRise old.now) where
  rows_are : rows_of mid.now.trees ≡ record (rows_of old.now.trees) { reach = [] }
  rows_are =
      let got = gets.made beside rise in
      let kept = got.1 in
      λ i. record { nodes = kept.0 i; entries = kept.1.1.1.1.1.0 i; members = kept.1.1.0 i; gone = kept.1.1.1.0 i; meta = kept.1.1.1.1.0 i; reach = got.2 i }

  former_are : mid.now.trees ace_tree ≡ old.now.trees ace_tree
  former_are = (gets.made beside rise).1.1.0

  -- what stood for an Office stands for it, and what stands for one did
  stands_then : (o : Office) → Stands old.now o → Stands mid.now o
  stands_then o st = record {
    base = base_of mid.now (book_of mid.now (gets.made beside rise).0 (former_are ∙ st.base.former));
    gives = subst (λ rows. Gives rows o) (sym rows_are) (gives_with_reach (rows_of old.now.trees) [] o st.gives);
    sound = st.sound;
  }

  stood_before : (o : Office) → Stands mid.now o → Stands old.now o
  stood_before o st =
      let reach = (rows_of old.now.trees).reach in
      let back : record (rows_of mid.now.trees) { reach = reach } ≡ rows_of old.now.trees = λ i. record (rows_are i) { reach = reach } in
      record {
        base = record { schema = beside; rules = rise.rules; rising = others_rise Second old.now beside rise; former = sym former_are ∙ st.base.former };
        gives = subst (λ rows. Gives rows o) back (gives_with_reach (rows_of mid.now.trees) reach o st.gives);
        sound = st.sound;
      }

  pub none_before : ¬ (StandsForOne mid.now) → ¬ (StandsForOne old.now)
  none_before none (o, st) = none (o, stands_then o st)

  pub settled_before : (new : Database) → Settled mid.now new → Settled old.now new
  settled_before new s = record {
    office = s.office;
    stood = stood_before s.office s.stood;
    kept = s.kept;
    same = s.same ∙ (λ i. record (rows_are i) { reach = (rows_of new.trees).reach });
  }

-- ---- a transaction

-- whether `reach` was written or not
pub office_kept : (mid new : State) (written : Bool) → TellsOffice mid new (Some written) → IsTrue new.in_transaction × (IsTabled mid.now → Settled mid.now new.now)
office_kept mid new true told = (told.inside, told.made)
office_kept mid new false told = (told.inside, λ tabled. let it = told.made tabled in subst (Settled mid.now) (sym it.0) it.1)

pub committed_by : (old inner new : State) → (RowsRise old.now → Settled old.now inner.now) → Shows inner new inner.now inner.now false → Commits old new
committed_by old inner new made shows = record {
  is_open = shows.is_open;
  committed = shows.committed_is ∙ sym shows.now_is;
  made = λ rise. subst (Settled old.now) (sym shows.now_is) (made rise);
}

pub leaves_settled : (old begun inner new : State) → begun ≡ record old { in_transaction = true } → Survives begun inner (λ _. ⊥)
    → (HasCleanDisk inner → IsTrue begun.in_transaction → RowsRise old.now → Settled old.now inner.now) → Survives inner new (λ db. db ≡ inner.now.trees) → Survives old new (MaySettle old)
leaves_settled old begun inner new is first made second =
    let h : Survives (record old { in_transaction = true }) inner (λ _. ⊥) = subst (λ (s : State). Survives s inner (λ _. ⊥)) is first in
    let from_old : Survives old inner (λ _. ⊥) = record { clean = h.clean; shield = h.shield; counts = h.counts; limit = h.limit; closes = h.closes; crash = h.crash } in
    survives_then old inner new (λ _. ⊥) (λ db. db ≡ inner.now.trees) (MaySettle old) (λ _ db none. absurd none)
    (λ clean db here rise.
    let clean_inner : HasCleanDisk inner = omega (arith, second.clean, clean) in
    let inside : IsTrue begun.in_transaction = subst (λ (s : State). IsTrue s.in_transaction) (sym is) refl in
    let it = made clean_inner inside rise in
    let stored : in_store inner.now.trees ≡ inner.now = λ i. record { schema = sym it.kept.book.schema i; trees = inner.now.trees } in
    subst (λ (t : Trees). Settled old.now (in_store t)) (sym here) (subst (Settled old.now) (sym stored) it))
    from_old second

-- a transaction begins with what the connection shows
module _ (old begun : State) (is : begun ≡ record old { in_transaction = true }) where
  now_is : begun.now ≡ old.now
  now_is = ap (λ (s : State). s.now) is

  pub book_settled : old.now.schema ≡ book_schema → (inner : State) (written : Bool) → TellsOffice begun inner (Some written) → RowsRise old.now → Settled old.now inner.now
  book_settled schema inner written told rise =
      subst (λ db. Settled db inner.now) now_is ((office_kept begun inner written told).1 (subst IsTabled (sym now_is) (tables_as book_schema old.now rise schema)))

  pub book_none : old.now.schema ≡ book_schema → (inner : State) → TellsOffice begun inner None → RowsRise old.now → ¬ (StandsForOne old.now)
  book_none schema inner none rise = subst (λ db. ¬ (StandsForOne db)) now_is (none (subst IsTabled (sym now_is) (tables_as book_schema old.now rise schema)))

  module _ (beside : IsBeside Second old.now.schema) (mid : State) (gets : MakesAnew begun mid) where
    begun_beside : IsBeside Second begun.now.schema
    begun_beside = subst (λ (db : Database). IsBeside Second db.schema) (sym now_is) beside

    pub base_settled : (inner : State) (written : Bool) → TellsOffice mid inner (Some written) → RowsRise old.now → Settled old.now inner.now
    base_settled inner written told rise =
        let risen = subst RowsRise (sym now_is) rise in
        subst (λ db. Settled db inner.now) now_is (settled_before begun mid gets begun_beside risen inner.now ((office_kept mid inner written told).1 (gets.made begun_beside risen).0))

    pub base_none : (IsTabled mid.now → ¬ (StandsForOne mid.now)) → RowsRise old.now → ¬ (StandsForOne old.now)
    base_none none rise =
        let risen = subst RowsRise (sym now_is) rise in
        subst (λ db. ¬ (StandsForOne db)) now_is (none_before begun mid gets begun_beside risen (none (gets.made begun_beside risen).0))
