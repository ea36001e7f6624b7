-- What is found in tables that are read in a transaction is so in the tables that the connection shows.
use Rattle.book_tables_findings.proofs.Common.{◌≡◌, ◌∙◌, Bool, true, false, true≢false, [], Option, Some, None, Result, IfOk, IsTrue, refl, ap, subst, sym, State}
use Rattle.std.proofs.Common.{◌↔◌}
use Rattle.std.proofs.lemmas.Result.{IfOk-weaker}
use Rattle.sqlite.specs.Effect.{Database, IsDatabase}
use Rattle.book_office_values.specs.declared.offices.Office.{Office}
use Rattle.book_tables_rows.specs.Rows.{IsBook, rows_of}
use Rattle.book_tables_rows.specs.Schema.{ace_tree, book_schema}
use Rattle.book_tables_rows.specs.Steps.{Looks}
use Rattle.book_tables_schema.specs.OtherReach.{IsBeside}
use Rattle.book_tables_schema.specs.Tabled.{IsTabled, book_of}
use Rattle.book_tables_schema.specs.declared.layout.Generation.TheVariants.{Second}
use Rattle.book_tables_schema.proofs.DroppedReach.{book_beside, others_rise}
use Rattle.book_tables_schema.proofs.RisingRows.{tables_as}
use Rattle.book_tables.specs.Stands.{Gives, Stands}
use Rattle.book_tables.proofs.RenewedReach.{gives_with_reach}
use Rattle.book_tables_opening.specs.Reading.{MakesAnew, RowsRise, StandsForOne, TellsStanding}
use Rattle.book_tables_opening.proofs.OpenedTables.{former_none}
use Rattle.book_tables_opening.proofs.SettledStores.{none_before}
use Rattle.book_tables_findings.specs.Examining.{Examines, IsOpenedAgain, TellsFault}
use Rattle.book_tables_findings.specs.Findings.{BreaksIn}
use Rattle.book_tables_findings.specs.declared.findings.Finding.{Finding}
use Rattle.book_tables_findings.specs.declared.faults.Fault.{Fault}
use Rattle.book_tables_findings.specs.declared.faults.Fault.TheVariants.{Schema as OtherSchema, Former, Found}

module _ (old mid : State) (looks : Looks old mid) (none : Bool) (told : old.now.schema ≡ book_schema → IsTrue none ↔ (old.now.trees ace_tree ≡ [])) where
  -- rows of version 1
  pub former_found : none ≡ false → IsTabled old.now → TellsFault old.now (Some Former)
  former_found is tabled =
      let some : ¬ (old.now.trees ace_tree ≡ []) = λ empty. true≢false (sym ((told tabled.schema).1 empty) ∙ is) in
      (some, former_none old.now some)

  module _ (yes : IsTrue none) (tabled : IsTabled old.now) where
    book : IsBook old.now
    book = book_of old.now tabled ((told tabled.schema).0 yes)

    same : mid.now ≡ old.now
    same = looks.same book

    pub none_found : TellsStanding mid true → TellsFault old.now None
    none_found standing = subst StandsForOne same ((standing.1 (subst IsBook (sym same) book)).0 refl)

    pub some_found : (f : Finding) → TellsStanding mid false → (IsBook mid.now → BreaksIn (rows_of mid.now.trees) f) → TellsFault old.now (Some (Found f))
    some_found f standing broken =
        let book_mid = subst IsBook (sym same) book in (
          subst (λ (db : Database). BreaksIn (rows_of db.trees) f) same (broken book_mid),
          λ one. true≢false (sym ((standing.1 book_mid).1 (subst StandsForOne (sym same) one))),
        )

-- ---- where `reach` was made anew

module _ (old mid : State) (gets : MakesAnew old mid) (beside : IsBeside Second old.now.schema) (rise : RowsRise old.now) where
  rows_are : rows_of mid.now.trees ≡ record (rows_of old.now.trees) { reach = [] }
  rows_are =
      let got = gets.made beside rise in
      let kept = got.1 in
      λ i. record { nodes = kept.0 i; entries = kept.1.1.1.1.1.0 i; members = kept.1.1.0 i; gone = kept.1.1.1.0 i; meta = kept.1.1.1.1.0 i; reach = got.2 i }

  former_are : mid.now.trees ace_tree ≡ old.now.trees ace_tree
  former_are = (gets.made beside rise).1.1.0

  stood_before : (o : Office) → Stands mid.now o → Stands old.now o
  stood_before o st =
      let reach = (rows_of old.now.trees).reach in
      let back : record (rows_of mid.now.trees) { reach = reach } ≡ rows_of old.now.trees = λ i. record (rows_are i) { reach = reach } in
      record {
        base = record { schema = beside; rules = rise.rules; rising = others_rise Second old.now beside rise; former = sym former_are ∙ st.base.former };
        gives = subst (λ rows. Gives rows o) back (gives_with_reach (rows_of mid.now.trees) reach o st.gives);
        sound = st.sound;
      }

  read_before : (f : Finding) → BreaksIn (rows_of mid.now.trees) f → BreaksIn (rows_of old.now.trees) f
  read_before f b =
      let c = subst (λ rows. BreaksIn rows f) rows_are b in
      let read = c.read in
      record {
        nodes = c.nodes;
        entries = c.entries;
        members = c.members;
        gone = c.gone;
        meta = c.meta;
        read = record { nodes_are = read.nodes_are; entries_are = read.entries_are; members_are = read.members_are; gone_are = read.gone_are; meta_are = read.meta_are };
        broken = c.broken;
      }

  pub found_before : (found : Option Fault) → TellsFault mid.now found → TellsFault old.now found
  found_before None one = (one.0, stood_before one.0 one.1)
  found_before (Some OtherSchema) told = absurd (told.0 (book_beside mid.now.schema (gets.made beside rise).0.schema))
  found_before (Some Former) told = (λ empty. told.0 (former_are ∙ empty), none_before old mid gets beside rise told.1)
  found_before (Some (Found f)) told = (read_before f told.0, none_before old mid gets beside rise told.1)

-- ---- a transaction begins with what the connection shows

module _ (old begun : State) (is : begun ≡ record old { in_transaction = true }) where
  now_is : begun.now ≡ old.now
  now_is = ap (λ (s : State). s.now) is

  pub book_told : {E : Type 0} → old.now.schema ≡ book_schema → (r : Result (Option Fault) E) → IfOk r (λ found. IsTabled begun.now → TellsFault begun.now found)
      → IfOk r (λ found. RowsRise old.now → TellsFault old.now found)
  book_told schema r told = IfOk-weaker r _ _ (λ found tells rise. subst (λ db. TellsFault db found) now_is (tells (subst IsTabled (sym now_is) (tables_as book_schema old.now rise schema)))) told

  pub base_told : {E : Type 0} → IsBeside Second old.now.schema → (mid : State) → MakesAnew begun mid → (r : Result (Option Fault) E) → IfOk r (λ found. IsTabled mid.now → TellsFault mid.now found)
      → IfOk r (λ found. RowsRise old.now → TellsFault old.now found)
  base_told beside mid gets r told = IfOk-weaker r _ _ (λ found tells rise.
      let beside_begun : IsBeside Second begun.now.schema = subst (λ (db : Database). IsBeside Second db.schema) (sym now_is) beside in
      let risen = subst RowsRise (sym now_is) rise in
      subst (λ db. TellsFault db found) now_is (found_before begun mid gets beside_begun risen found (tells (gets.made beside_begun risen).0))) told

-- ---- a store that was opened again

pub store_told : (old first : State) → (IsTrue old.is_open → old.now ≡ old.committed) → IsOpenedAgain old first → (found : Option Fault) → (RowsRise first.now → TellsFault first.now found) → Examines old found
store_told old first settled again found tells =
    let trees : first.now.trees ≡ old.now.trees = again.trees ∙ sym (ap (λ (db : Database). db.trees) (settled again.was_open)) in
    let whole : record { schema = first.now.schema; trees = old.now.trees } ≡ first.now = λ i. record { schema = first.now.schema; trees = sym trees i } in
    record {
      was_clean = again.was_clean;
      was_open = again.was_open;
      told = record { schema = first.now.schema; listed = subst IsDatabase (sym whole) again.rise.rules; told = subst (λ db. TellsFault db found) (sym whole) (tells again.rise) };
    }
