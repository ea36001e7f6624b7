-- Tables whose rows are those of a sound Office stand for it, and those of others for none.
use Rattle.book_tables_opening.proofs.Common.{◌≡◌, inl, inr, Bool, true, false, List, [], Some, None, IsTrue, refl, sym, ap, subst, ◌∙◌, arith, Database, Row, State, HasCleanDisk, pairs_of, rows_of, IsBook, book_schema, entries_shown, gone_shown, meta_shown, AllByRecursion, AreOfficeRows, whole_nodes}
use Rattle.std.proofs.Common.{◌↔◌, ◌⊎◌}
use Rattle.std.proofs.lemmas.Bool.{true≢false}
use Rattle.std.proofs.lemmas.List.Sorted.{IsPermutation-sym}
use Rattle.sqlite.specs.Held.{Held, state}
use Rattle.sqlite.specs.State.{Opens, Survives}
use Rattle.sqlite.specs.Tree.{Trees}
use Rattle.sqlite.proofs.StateLemmas.{survives_then}
use Rattle.sqlite_catalog.proofs.ReadLemmas.{lists_once}
use Rattle.sqlite_trees.specs.Objects.{catalog_tree}
use Rattle.sqlite_trees.specs.declared.store.Store.{Ghosts}
use Rattle.book_office_values.specs.declared.offices.Office.{Office}
use Rattle.book_tables_rows.specs.Rows.{Rows, in_store}
use Rattle.book_tables_rows.specs.Schema.{ace_tree}
use Rattle.book_tables_rows.specs.Steps.{Looks, Stays}
use Rattle.book_tables_schema.specs.OtherReach.{IsBeside}
use Rattle.book_tables_schema.specs.declared.layout.Generation.TheVariants.{Second}
use Rattle.book_tables_schema.specs.Reopening.{IsConnectionAnd}
use Rattle.book_tables_schema.specs.Tabled.{IsTabled, book_of}
use Rattle.book_tables_schema.specs.declared.reopening.Unopened.{Unopened}
use Rattle.book_tables_schema.specs.declared.reopening.Unopened.TheVariants.{Connection, Store}
use Rattle.book_tables.specs.Reach.{AreDirect, HoldsReach, IsSettled, Settles}
use Rattle.book_tables.specs.Reach as reaching
use Rattle.book_tables.specs.Stands.{Gives, IsKept, LeftBy, Stands}
use Rattle.book_tables.proofs.OneOffice.{base_of, kept_stands, only_left}
use Rattle.book_tables.proofs.RenewedReach.{gives_with_reach}
use Rattle.book_tables_opening.specs.Opening.{AreTextlessRows, HasTextIn}
use Rattle.book_tables_opening.specs.Reading.{Commits, IsOpened, IsUnopened, LeavesReach, MaySettle, IsReopened, RowsRise, SameRows, Settled, ShowsTables, StandForNone, StandsForOne, TellsOffice, TellsSettled, TellsStanding, WritesReach}
use Rattle.book_tables_opening.proofs.AnyOrder.{any_order}
use Rattle.book_tables_opening.proofs.GivenRows.{given_rows}
use Rattle.book_tables_opening.proofs.NodeTexts.{texts_own, texts_there}
use Rattle.book_tables_opening.proofs.RowOffices.{office_of_rows}
use Rattle.book_tables_opening.proofs.Textless.{office_with_texts, textless_office, texts_of_office}

-- what the tests of the rows that are shown, and of the texts, tell
module _ (s : State) (nodes entries members gone meta : List Row) (shows : ShowsTables s nodes entries members gone meta) where
  office_shown : (book : IsBook s.now) → AreTextlessRows nodes entries members gone meta → AllByRecursion (HasTextIn (rows_of s.now.trees)) nodes → StandsForOne s.now
  office_shown book are texts =
      let rows = rows_of s.now.trees in
      let bare = subst (λ ns. AreTextlessRows ns entries members gone meta) (shows.nodes_are.1 book) are in
      let own = texts_own s.now book (subst (AllByRecursion (HasTextIn rows)) (shows.nodes_are.1 book) texts) in
      let exact = any_order (whole_nodes rows) entries (entries_shown rows) members (pairs_of rows) gone (gone_shown rows) meta (meta_shown rows)
      (IsPermutation-sym _ _ (shows.lists.entries_are.1 book)) (IsPermutation-sym _ _ (shows.lists.members_are.1 book)) (IsPermutation-sym _ _ (shows.rest.gone_are.1 book)) (IsPermutation-sym _ _ (shows.rest.meta_are.1 book))
      (office_with_texts (whole_nodes rows) entries members gone meta bare own) in
      let o = office_of_rows s.now book exact in
      (o.0, record { base = base_of s.now book; gives = o.1; sound = o.2 })

  shown_office : (book : IsBook s.now) → StandsForOne s.now → AreOfficeRows (whole_nodes (rows_of s.now.trees)) entries members gone meta
  shown_office book (o, st) =
      let rows = rows_of s.now.trees in
      any_order (whole_nodes rows) (entries_shown rows) entries (pairs_of rows) members (gone_shown rows) gone (meta_shown rows) meta
      (shows.lists.entries_are.1 book) (shows.lists.members_are.1 book) (shows.rest.gone_are.1 book) (shows.rest.meta_are.1 book) (given_rows s.now book o st.gives st.sound)

  -- where the rows are not those of an Office, whatever the texts
  pub none_told : ¬ (AreTextlessRows nodes entries members gone meta) → TellsStanding s false
  none_told none = (
    shows.nodes_are.0,
    λ book. (
      λ yes. absurd (true≢false (sym yes)),
      λ one. absurd (none (subst (λ ns. AreTextlessRows ns entries members gone meta) (sym (shows.nodes_are.1 book)) (textless_office _ entries members gone meta (shown_office book one)))),
    ),
  )

  pub office_told : AreTextlessRows nodes entries members gone meta → (is : Bool) → (IsBook s.now → IsTrue is ↔ AllByRecursion (HasTextIn (rows_of s.now.trees)) nodes) → TellsStanding s is
  office_told are is told = (
    shows.nodes_are.0,
    λ book. (
      λ yes. office_shown book are ((told book).0 yes),
      λ one. (told book).1 (subst (AllByRecursion (HasTextIn (rows_of s.now.trees))) (sym (shows.nodes_are.1 book)) (texts_there s.now book (texts_of_office _ entries members gone meta (shown_office book one)))),
    ),
  )

-- tables without the schema of a store stand for none
pub foreign_none : (db : Database) → ¬ (IsBeside Second db.schema) → ¬ (StandsForOne db)
foreign_none db foreign (o, st) = foreign st.base.schema

-- tables of which the one of version 1 has rows stand for none
pub former_none : (db : Database) → (db.trees ace_tree ≡ [] → ⊥) → ¬ (StandsForOne db)
former_none db some (o, st) = some st.base.former

-- ---- in a transaction

-- other tables than `reach` that stay, and a `reach` that holds what chains lead to, are kept for the Office
settled : (db new : Database) (o : Office) → Stands db o → IsBook new → (reach : List Row) → rows_of new.trees ≡ record (rows_of db.trees) { reach = reach } → HoldsReach reach o.pairs → Settled db new
settled db new o st book reach rows_are holds = record {
  office = o;
  stood = st;
  kept = record {
    book = book;
    gives = subst (λ rows. Gives rows o) (sym rows_are) (gives_with_reach (rows_of db.trees) reach o st.gives);
    sound = st.sound;
    reach = subst (λ (rows : Rows). HoldsReach rows.reach o.pairs) (sym rows_are) holds;
  };
  same = rows_are ∙ (λ i. record (rows_of db.trees) { reach = sym (ap (λ (rows : Rows). rows.reach) rows_are) i });
}

-- where the table of version 1 has a row
pub former_told : (old first : State) (none : Bool) → (old.now.schema ≡ book_schema → IsTrue none ↔ (old.now.trees ace_tree ≡ [])) → none ≡ false → TellsOffice old first None
former_told old first none told is tabled = former_none old.now (λ empty. true≢false (sym ((told tabled.schema).1 empty) ∙ is))

module _ (old first second : State) (looks : Looks old first) (again : Looks first second) where
  module _ (none : Bool) (told : old.now.schema ≡ book_schema → IsTrue none ↔ (old.now.trees ace_tree ≡ [])) (yes : IsTrue none) where
    book_is : IsTabled old.now → IsBook old.now
    book_is tabled = book_of old.now tabled ((told tabled.schema).0 yes)

    -- where the rows are those of no Office
    pub office_none : TellsStanding first false → TellsOffice old second None
    office_none standing tabled one =
        let book = book_is tabled in
        let is = looks.same book in
        true≢false (sym ((standing.1 (subst IsBook (sym is) book)).1 (subst StandsForOne (sym is) one)))

    module _ (standing : TellsStanding first true) where
      one_is : IsTabled old.now → StandsForOne old.now
      one_is tabled = let book = book_is tabled in let is = looks.same book in subst StandsForOne is ((standing.1 (subst IsBook (sym is) book)).0 refl)

      same_now : (tabled : IsTabled old.now) → second.now ≡ old.now
      same_now tabled = let book = book_is tabled in let is = looks.same book in again.same (subst IsBook (sym is) book) ∙ is

      members_at : second.now ≡ old.now → (o : Office) → Stands old.now o → AreDirect (rows_of second.now.trees) o.pairs
      members_at is o st = subst (λ (db : Database). AreDirect (rows_of db.trees) o.pairs) (sym is) st.gives.members

      pub reach_written : (third : State) → Settles second third → WritesReach old third
      reach_written third settles = record {
        inside = settles.inside;
        is_open = settles.is_open;
        made = λ tabled.
            let one = one_is tabled in
            let o = one.0 in
            let st = one.1 in
            let is = same_now tabled in
            let done = settles.made (subst IsBook (sym is) (book_is tabled)) in
            settled old.now third.now o st done.0 done.1 (done.2 ∙ ap (λ (db : Database). record (rows_of db.trees) { reach = done.1 }) is)
            (done.3 o.pairs (members_at is o st));
      }

      pub reach_left : (third : State) → IsTrue old.in_transaction → IsSettled second third → LeavesReach old third
      reach_left third inside holds = record {
        inside = subst IsTrue (sym (holds.looks.mode ∙ again.mode ∙ looks.mode)) inside;
        made = λ tabled.
            let one = one_is tabled in
            let o = one.0 in
            let st = one.1 in
            let book = book_is tabled in
            let is = same_now tabled in
            let book_second = subst IsBook (sym is) book in (
              holds.looks.same book_second ∙ is,
              settled old.now old.now o st book (rows_of old.now.trees).reach refl
                  (subst (λ (db : Database). HoldsReach (rows_of db.trees).reach o.pairs) is (holds.holds book_second o.pairs (members_at is o st))),
            );
      }

-- the whole of it
pub office_settled : (old first second third : State) (looks : Looks old first) (again : Looks first second) (none : Bool) (told : old.now.schema ≡ book_schema → IsTrue none ↔ (old.now.trees ace_tree ≡ [])) (is_none : IsTrue none)
    (standing : TellsStanding first true) → IsTrue old.in_transaction → (written : Bool) → reaching.TellsSettled second third written → TellsOffice old third (Some written)
office_settled old first second third looks again none told is_none standing inside true settles = reach_written old first second looks again none told is_none standing third settles
office_settled old first second third looks again none told is_none standing inside false holds = reach_left old first second looks again none told is_none standing third inside holds

-- tables that stood for none, and that were then read alone
pub still_none : (old mid new : State) → TellsSettled old mid false → Stays mid new → TellsSettled old new false
still_none old mid new (stays, none) again = ((λ open_now. let then_open = again open_now in let was = stays then_open.0 in (was.0, then_open.1 ∙ was.1)), none)

-- what a stop may leave is as before where the tables were then read alone
pub left_then : (old mid new : State) → Survives old mid (MaySettle old) → Survives mid new (λ _. ⊥) → Survives old new (MaySettle old)
left_then old mid new = survives_then old mid new (MaySettle old) (λ _. ⊥) (MaySettle old) (λ _ db may. may) (λ _ db none. absurd none)

-- ---- a store that was opened again

module _ (old new : State) (survives : Survives old new (MaySettle old)) (clean : HasCleanDisk new) (opens : Opens old) (rise : RowsRise old.now)
    (was_settled : (trees : Trees) → IsTrue old.is_open → old.may_leave trees → trees ≡ old.committed.trees) where
  was_clean : HasCleanDisk old
  was_clean = omega (arith, clean, survives.clean)

  -- what a stop may leave is what was committed, or is kept for the same Office
  may_be : (trees : Trees) → new.may_leave trees → (trees ≡ old.now.trees) ⊎ Settled old.now (in_store trees)
  may_be trees may = elim (survives.crash clean trees may) [
    | inl kept ↦ inl (was_settled trees opens.is_open kept ∙ sym (ap (λ (d : Database). d.trees) opens.clean))
    | inr made ↦ inr (made rise)
  ]

  -- one that made `reach`, or found it so
  pub opened : Commits old new → ((trees : Trees) → IsTrue new.is_open → new.may_leave trees → trees ≡ new.committed.trees) → IsOpened old.now.trees new
  opened c settles =
      let s = c.made rise in
      record {
        stands = record {
          office = s.office;
          stood = (old.now.schema, s.stood);
          stands = record {
            stands = (λ open_now. s.kept, s.kept.sound);
            left = λ x left.
                let same : left.0 ≡ new.now.trees = settles left.0 c.is_open left.1 ∙ ap (λ (d : Database). d.trees) c.committed in
                only_left new.now s.office x (kept_stands new.now s.office s.kept) (subst (λ trees. LeftBy trees x) same left.2);
          };
          is_open = c.is_open;
        };
        same = s.same;
      }

  -- one that was not opened
  pub unopened : Stays old new → IsUnopened old.now.trees new
  unopened stays = record {
    shows = λ open_now. ap (λ (d : Database). d.trees) (stays open_now).1;
    left = λ after may. elim (may_be after may) [
      | inl same ↦ inl same
      | inr made ↦ inr (record { office = made.office; stood = (old.now.schema, made.stood); kept = made.kept; same = made.same })
    ];
  }

-- tables that stand for no Office under the schema that they list stand for none
pub refused : (old new : State) → TellsSettled old new false → RowsRise old.now → StandForNone old.now.trees
refused old new (stays, none) rise schema o st =
    let same : schema ≡ old.now.schema = lists_once (old.now.trees catalog_tree) schema old.now.schema st.base.rules.lists rise.rules.lists in
    none rise (o, subst (λ s. Stands (record { schema = s; trees = old.now.trees }) o) same st)

-- what holds of a connection that came back
pub connected_weaker : {S : Type 0} (P Q : Held S → Type 0) (left : Unopened S) → ((c : Held S) → P c → Q c) → IsConnectionAnd left P → IsConnectionAnd left Q
connected_weaker P Q (Connection c) f h = f c h
connected_weaker P Q (Store s) f h = absurd h

-- a connection that was just opened shows what was committed
pub shows_committed : {S : Type 0} (g : Ghosts S) (found given : Held S) → given ≡ found → IsReopened (state g given) → HasCleanDisk (state g given) → (state g given).now.trees ≡ (state g found).committed.trees
shows_committed g found given same reopened clean =
    ap (λ (d : Database). d.trees) (reopened clean).0.clean ∙ ap (λ h. (state g h).committed.trees) same
