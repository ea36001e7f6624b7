-- What the steps of a migration leave of a connection.
use Rattle.std.proofs.Common.{◌≡◌, ◌≢◌, inl, inr, ℕ, true, false, [], ◌∷◌, codes, length, slice_get, Some, None, Result, Ok, Err, IfErr, refl, sym, ap, subst, ◌∙◌, true≢false, IsTrue, arith}
use Rattle.std.proofs.lemmas.Option.{same_Some}
use Rattle.sqlite.specs.Effect.{Database}
use Rattle.sqlite.specs.Schema.{Schema}
use Rattle.sqlite.specs.State.{State, HasCleanDisk, Opens, Shows, Survives}
use Rattle.sqlite.specs.Table.{Table}
use Rattle.sqlite_schema.specs.Names.{same_name}
use Rattle.sqlite_tied.specs.Compute.{everything}
use Rattle.book_office_values.specs.declared.offices.Office.{Office}
use Rattle.sqlite.specs.Tree.{Trees}
use Rattle.sqlite.proofs.StateLemmas.{survives_then}
use Rattle.book_tables_rows.specs.Rows.{Rows, IsBook, in_store, rows_of}
use Rattle.book_tables_rows.specs.Schema.{ace_tree, first_schema}
use Rattle.book_tables_rows.specs.Steps.{Stays}
use Rattle.book_tables_schema.specs.Layout.{former_table}
use Rattle.book_tables_schema.specs.OtherReach.{DropsDerived, IsBareBeside, IsBeside, schema_of}
use Rattle.book_tables_schema.specs.OwnIndexes.{bared}
use Rattle.book_tables_schema.specs.declared.layout.Generation.TheVariants.{First, Former, Second}
use Rattle.book_tables_schema.specs.declared.layout.Generation.{Generation}
use Rattle.book_tables_schema.specs.Renewing.{renumbered}
use Rattle.book_tables_schema.specs.Tabled.{HasTables, IsTabled}
use Rattle.book_tables_renewing.specs.Renewal.{first_rows_of, AreFirstRows, Renewed}
use Rattle.book_tables_renewing.specs.Reordering.{former_rows_of, Reordered}
use Rattle.book_tables.specs.Stands.{Gives, IsKept, LeftBy, Stands}
use Rattle.book_tables.proofs.OneOffice.{base_of, kept_stands, one_office, only_left}
use Rattle.book_tables_opening.specs.Reading.{RowsRise, Settled, StandsForOne}
use Rattle.book_tables_migrating.specs.Migrating.{HasBefore, StandsBefore, StandsFirst, StandsForNoneAs, TellsGeneration, Rewritten, IsMigrated, MayMigrate, StandsMigrated, IsUnmigrated}
use Rattle.book_tables_migrating.specs.Widen.{widen}
use Rattle.book_tables_migrating.proofs.MappedRows.{as_first, widened_stands, stood_first}

-- ---- the steps in a transaction

tabled_of : (db : Database) → IsBook db → IsTabled db
tabled_of db book = record { schema = book.schema; rules = book.rules; rising = book.rising }

module _ (old between : State) (drops : DropsDerived old between) where
  tables_left : HasBefore First old.now → HasTables first_schema between.now
  tables_left tables = (drops.made First tables.0 tables.1).0

  rows_left : HasBefore First old.now → first_rows_of between.now.trees ≡ first_rows_of old.now.trees
  rows_left tables =
      let kept = (drops.made First tables.0 tables.1).1 in
      λ i. record { nodes = kept.0 i; entries = kept.1.0 i; members = kept.1.1.0 i; gone = kept.1.1.1.0 i; meta = kept.1.1.1.1.0 i; reach = [] }

  stands_still : (o : Office) → StandsFirst old.now o → StandsFirst between.now o
  stands_still o st =
      let rows = sym (rows_left st.tables) in
      record { tables = as_first between.now (tables_left st.tables); first = subst AreFirstRows rows st.first; gives = subst (λ r. Gives (renumbered r) o) rows st.gives; sound = st.sound }

  stood_before : HasBefore First old.now → (o : Office) → StandsFirst between.now o → StandsFirst old.now o
  stood_before tables o st =
      let rows = rows_left tables in
      record { tables = tables; first = subst AreFirstRows rows st.first; gives = subst (λ r. Gives (renumbered r) o) rows st.gives; sound = st.sound }

  pub not_renewed : (HasTables first_schema between.now → ¬ (AreFirstRows (first_rows_of between.now.trees))) → StandsForNoneAs First old.now
  not_renewed none new st = none (tables_left st.1.tables) (stands_still st.0 st.1).first

  module _ (mid : State) (count : ℕ) (renewed : Renewed between mid count) where
    pub not_office : (IsTabled mid.now → ¬ (StandsForOne mid.now)) → StandsForNoneAs First old.now
    not_office none new st =
        let tables = tables_left st.1.tables in
        let made = renewed.made tables in
        none (tabled_of mid.now made.0) (widen st.0, widened_stands between.now tables st.0 (stands_still st.0 st.1) mid.now made.0 made.1)

    pub rewritten : (new : State) → IsTrue new.in_transaction × (IsTabled mid.now → Settled mid.now new.now) → Rewritten First old new count
    rewritten new settles = record {
      inside = settles.0;
      was_open = drops.was_open;
      stands = λ first.
          let tables = tables_left first in
          let made = renewed.made tables in
          let it = settles.1 (tabled_of mid.now made.0) in
          let one = stood_first between.now tables (renewed.first tables) mid.now made.0 made.1 it.office it.stood in
          let same : it.office ≡ widen one.0 = one_office (rows_of mid.now.trees) it.office (widen one.0) it.stood.gives one.2.gives it.stood.sound one.2.sound in
          (widen one.0, (one.0, stood_before first one.0 one.1, refl), subst (IsKept new.now) same it.kept);
      counted = λ first. renewed.counted (tables_left first) ∙ ap (λ (r : Rows). length r.entries) (rows_left first);
    }

-- ---- the same of the former order

module _ (old between : State) (drops : DropsDerived old between) where
  former_left : HasBefore Former old.now → HasTables (schema_of Former) between.now
  former_left tables = (drops.made Former tables.0 tables.1).0

  former_kept : HasBefore Former old.now → former_rows_of between.now.trees ≡ former_rows_of old.now.trees
  former_kept tables =
      let kept = (drops.made Former tables.0 tables.1).1 in
      λ i. record { nodes = kept.0 i; entries = kept.1.1.1.1.1.0 i; members = kept.1.1.0 i; gone = kept.1.1.1.0 i; meta = kept.1.1.1.1.0 i; reach = [] }

  ace_kept : HasBefore Former old.now → between.now.trees ace_tree ≡ old.now.trees ace_tree
  ace_kept tables = (drops.made Former tables.0 tables.1).1.1.0

  pub not_reordered : (HasTables (schema_of Former) between.now → between.now.trees ace_tree ≢ []) → StandsForNoneAs Former old.now
  not_reordered none new st = none (former_left st.tables) (ace_kept st.tables ∙ st.empty)

  module _ (mid : State) (count : ℕ) (reordered : Reordered between mid count) where
    rows_are : HasBefore Former old.now → rows_of mid.now.trees ≡ former_rows_of old.now.trees
    rows_are tables = (reordered.made (former_left tables)).2 ∙ former_kept tables

    pub not_former : (IsTabled mid.now → ¬ (StandsForOne mid.now)) → StandsForNoneAs Former old.now
    not_former none new st =
        let book = (reordered.made (former_left st.tables)).1 in
        none (tabled_of mid.now book) (new, record { base = base_of mid.now book; gives = subst (λ r. Gives r new) (sym (rows_are st.tables)) st.gives; sound = st.sound })

    pub rearranged : (new : State) → IsTrue new.in_transaction × (IsTabled mid.now → Settled mid.now new.now) → Rewritten Former old new count
    rearranged new settles = record {
      inside = settles.0;
      was_open = drops.was_open;
      stands = λ before.
          let made = reordered.made (former_left before) in
          let it = settles.1 (tabled_of mid.now made.1) in
          let st = it.stood in
          (it.office, record { tables = before; empty = sym (ace_kept before) ∙ made.0; gives = subst (λ r. Gives r it.office) (rows_are before) st.gives; sound = st.sound }, it.kept);
      counted = λ before. reordered.counted (former_left before) ∙ ap (λ (r : Rows). length r.entries) (former_kept before);
    }

-- ---- no tables are of both

other_name : same_name (codes "ace2") (codes "reach") ≡ false
unfolding same_name everything
other_name = refl

apart_bare : (schema : Schema) → IsBareBeside First schema → IsBareBeside Former schema → ⊥
apart_bare schema (inl is) (inl other) = let e : 5 ≡ 6 = ap (λ (s : Schema). length s.tables) (sym is ∙ other) in absurd (omega (arith, e))
apart_bare schema (inl is) (inr other) = let e : 5 ≡ 7 = ap (λ (s : Schema). length s.tables) (sym is) ∙ ap length other.there.are in absurd (omega (arith, e))
apart_bare schema (inr has) (inl other) =
    let same : has.there.last ≡ former_table = same_Some has.there.last former_table (ap (λ ts. slice_get ts 5) (sym has.there.are) ∙ ap (λ (s : Schema). slice_get s.tables 5) other) in
    absurd (true≢false (sym has.there.its.named ∙ ap (λ (t : Table). same_name t.name (codes "reach")) same ∙ other_name))
apart_bare schema (inr has) (inr other) = let e : 6 ≡ 7 = ap length (sym has.there.are) ∙ ap length other.there.are in absurd (omega (arith, e))

apart : (schema : Schema) → IsBeside First schema → IsBeside Former schema → ⊥
apart schema first former = apart_bare (bared schema) first former

pub told_beside : (schema : Schema) (generation : Generation) → TellsGeneration schema (Some generation) → IsBeside generation schema
told_beside schema First told = told
told_beside schema Former told = told
told_beside schema Second told = absurd told

-- tables that stand for none as those that they are stand for none
pub none_else : (db : Database) (generation : Generation) → TellsGeneration db.schema (Some generation) → StandsForNoneAs generation db → (other : Generation) → StandsForNoneAs other db
none_else db First told none First = none
none_else db First told none Former = λ new st. apart db.schema told st.tables.0
none_else db First told none Second = λ new st. st
none_else db Former told none First = λ new st. apart db.schema st.1.tables.0 told
none_else db Former told none Former = none
none_else db Former told none Second = λ new st. st
none_else db Second told none other = absurd told

-- and where they are of neither
pub none_told : (db : Database) → TellsGeneration db.schema None → (generation : Generation) → StandsForNoneAs generation db
none_told db told First = λ new st. told.0 st.1.tables.0
none_told db told Former = λ new st. told.1 st.tables.0
none_told db told Second = λ new st. st

-- ---- a transaction

pub migrated : (old begun inner new : State) (generation : Generation) (count : ℕ) → IsBeside generation old.now.schema → begun ≡ record old { in_transaction = true } → Rewritten generation begun inner count → Shows inner new inner.now inner.now false
    → IsMigrated old new count
migrated old begun inner new generation count schema is made shows =
    let it : Rewritten generation (record old { in_transaction = true }) inner count = subst (λ (s : State). Rewritten generation s inner count) is made in
    record {
      generation = generation;
      schema = schema;
      was_open = it.was_open;
      is_open = shows.is_open;
      committed = shows.committed_is ∙ sym shows.now_is;
      stands = λ tables. let x = it.stands tables in (x.0, x.1, subst (λ db. IsKept db x.0) (sym shows.now_is) x.2);
      counted = it.counted;
    }

pub leaves_migrated : (old begun inner new : State) (generation : Generation) (count : ℕ) → IsBeside generation old.now.schema → begun ≡ record old { in_transaction = true } → Survives begun inner (λ _. ⊥)
    → (HasCleanDisk inner → IsTrue begun.in_transaction → Rewritten generation begun inner count) → Survives inner new (λ db. db ≡ inner.now.trees) → Survives old new (MayMigrate old)
leaves_migrated old begun inner new generation count schema is first made second =
    let h : Survives (record old { in_transaction = true }) inner (λ _. ⊥) = subst (λ (s : State). Survives s inner (λ _. ⊥)) is first in
    let from_old : Survives old inner (λ _. ⊥) = record { clean = h.clean; shield = h.shield; counts = h.counts; limit = h.limit; closes = h.closes; crash = h.crash } in
    survives_then old inner new (λ _. ⊥) (λ db. db ≡ inner.now.trees) (MayMigrate old) (λ _ db none. absurd none)
    (λ clean db here.
    let clean_inner : HasCleanDisk inner = omega (arith, second.clean, clean) in
    let inside : IsTrue begun.in_transaction = subst (λ (s : State). IsTrue s.in_transaction) (sym is) refl in
    let it : Rewritten generation (record old { in_transaction = true }) inner count = subst (λ (s : State). Rewritten generation s inner count) is (made clean_inner inside) in
    record {
      generation = generation;
      schema = schema;
      was_open = it.was_open;
      stands = λ tables.
          let x = it.stands tables in
          let stored : in_store inner.now.trees ≡ inner.now = λ i. record { schema = sym x.2.book.schema i; trees = inner.now.trees } in
          (x.0, x.1, subst (λ t. Stands (in_store t) x.0) (sym here) (subst (λ db. Stands db x.0) (sym stored) (kept_stands inner.now x.0 x.2)));
    })
    from_old second

-- ---- a store

abbrev IsAtRest : State → Type 0
IsAtRest s = (trees : Trees) → IsTrue s.is_open → s.may_leave trees → trees ≡ s.committed.trees

pub widened_alone : (old new : State) (count : ℕ) → RowsRise old.now → IsAtRest new → IsMigrated old new count → StandsMigrated old.now.trees new count
widened_alone old new count rise at_rest m =
    let tables : HasBefore m.generation old.now = (m.schema, rise) in
    let x = m.stands tables in
    record {
      generation = m.generation;
      office = x.0;
      before = (old.now.schema, x.1);
      stands = record {
        stands = (λ _. x.2, x.2.sound);
        left = λ l left.
            let same : left.0 ≡ new.now.trees = at_rest left.0 m.is_open left.1 ∙ ap (λ (d : Database). d.trees) m.committed in
            only_left new.now x.0 l (kept_stands new.now x.0 x.2) (subst (λ t. LeftBy t l) same left.2);
      };
      counted = m.counted tables;
    }

pub unmigrated : (old new : State) → HasCleanDisk new → Opens old → IsAtRest old → RowsRise old.now → Stays old new → Survives old new (MayMigrate old) → IsUnmigrated old.now.trees new
unmigrated old new clean opens at_rest rise stays survives = record {
  shows = λ open_now. ap (λ (d : Database). d.trees) (stays open_now).1;
  left = λ after may. elim (survives.crash clean after may) [
    | inl kept ↦ inl (at_rest after opens.is_open kept ∙ sym (ap (λ (d : Database). d.trees) opens.clean))
    | inr made ↦ inr (let x = made.stands (made.schema, rise) in (made.generation, x.0, (old.now.schema, x.1), x.2))
  ];
}

-- ---- parts of an answer

pub if_err : {X E : Type 0} (r : Result X E) (P Q : E → Type 0) → ((e : E) → P e → Q e) → IfErr r P → IfErr r Q
if_err (Ok x) P Q f h = tt
if_err (Err e) P Q f h = f e h
