-- The steps of a renewal, joined.
use Rattle.std.proofs.Common.{◌≡◌, inl, inr, ℕ, Bool, true, false, not, ◌&&◌, ◌||◌, List, [], ◌∷◌, map, length, refl, sym, ap, subst, ◌∙◌, true≢false, IsTrue, IsPermutation}
use Rattle.std.specs.List.{AllByRecursion, list_all, list_any}
use Rattle.std.proofs.lemmas.Bool.{and_parts}
use Rattle.std.proofs.lemmas.List.Sorted.{length_permutation, list_any-IsPermutation}
use lib.ListN.{length-map}
use Rattle.sqlite.specs.Effect.{Database, IsDatabase}
use Rattle.sqlite.specs.Order.{Row, column}
use Rattle.sqlite.specs.State.{State}
use Rattle.sqlite.specs.Table.{Table}
use Rattle.sqlite_catalog.specs.Change.{KeepsRows}
use Rattle.sqlite_rules.specs.Lists.{Has}
use Rattle.sqlite_rules.proofs.ListLemmas.{all_has}
use Rattle.sqlite_trees.specs.View.{IsShaped}
use Rattle.sqlite_trees.specs.declared.store.Shape.TheVariants.{Table as TableShape}
use Rattle.book_tables_rows.specs.Columns.{ace_mask}
use Rattle.book_tables_rows.specs.Lists.{ShowsRows}
use Rattle.book_tables_rows.specs.Rows.{Rows, rows_of, IsBook}
use Rattle.book_tables_rows.specs.Schema.{first_schema, base_schema, ace_tree, ace2_tree}
use Rattle.book_tables_rows.specs.Steps.{Looks, BecomesIf}
use Rattle.book_tables_schema.specs.Founding.{GetsDerived, Renews}
use Rattle.book_tables_schema.specs.Renewing.{Empties, IsFirstMeta, renumbered, widened_row}
use Rattle.book_tables_schema.specs.Tabled.{HasTables}
use Rattle.book_tables_schema.specs.Whole.{meta_shown}
use Rattle.book_tables_renewing.specs.Renewal.{first_rows_of, is_first_mask, HasFirstMask, AreFirstRows, ShowsMasks, Copies, Retables, Reversions, Renewed, are_first_meta}
use Rattle.book_tables_renewing.proofs.FirstMeta.{version_first, first_version}

-- ---- the tables

-- the tables of version 2 are there but for `reach`, and the one of entries is empty
module _ (old new : State) (renews : Renews old new) (first : HasTables first_schema old.now) where
  abbrev made : (new.now.schema ≡ base_schema) × IsDatabase new.now × KeepsRows first_schema.tables old.now.trees new.now.trees × (new.now.trees ace2_tree ≡ [])
  made = renews.made first.schema

  kept_of : (t : Table) → Has first_schema.tables t → new.now.trees t.tree ≡ old.now.trees t.tree
  kept_of t there = all_has (λ u. new.now.trees u.tree ≡ old.now.trees u.tree) first_schema.tables t made.2 there

  shaped_of : (t : Table) → Has first_schema.tables t → IsShaped TableShape (new.now.trees t.tree)
  shaped_of t there = subst (IsShaped TableShape) (sym (kept_of t there)) (first.rising t there)

  pub renewed_tables : HasTables base_schema new.now
  renewed_tables = record {
    schema = made.0;
    rules = made.1;
    rising = λ t there. elim there [
      | inl is ↦ subst (λ (u : Table). IsShaped TableShape (new.now.trees u.tree)) (sym is) (shaped_of _ (inl refl))
      | inr (inl is) ↦ subst (λ (u : Table). IsShaped TableShape (new.now.trees u.tree)) (sym is) (shaped_of _ (inr (inl refl)))
      | inr (inr (inl is)) ↦ subst (λ (u : Table). IsShaped TableShape (new.now.trees u.tree)) (sym is) (shaped_of _ (inr (inr (inl refl))))
      | inr (inr (inr (inl is))) ↦ subst (λ (u : Table). IsShaped TableShape (new.now.trees u.tree)) (sym is) (shaped_of _ (inr (inr (inr (inl refl)))))
      | inr (inr (inr (inr (inl is)))) ↦ subst (λ (u : Table). IsShaped TableShape (new.now.trees u.tree)) (sym is) (shaped_of _ (inr (inr (inr (inr (inl refl))))))
      | inr (inr (inr (inr (inr (inl is))))) ↦ subst (λ (u : Table). IsShaped TableShape (new.now.trees u.tree)) (sym is) (subst (IsShaped TableShape) (sym made.3) (tt, tt))
      | inr (inr (inr (inr (inr (inr none))))) ↦ absurd none
    ];
  }

pub retabled : (a b r c d : State) → Renews a b → GetsDerived b r → Copies r c → Empties c d → Retables a d
retabled a b r c d renews gets copies empties = record {
  inside = empties.inside;
  was_open = renews.was_open;
  is_open = empties.is_open;
  made = λ first masks.
      let made = renews.made first.schema in
      let got = gets.made (renewed_tables a b renews first) in
      let rows = made.2 in
      let kept = got.1 in
      let former : r.now.trees ace_tree ≡ a.now.trees ace_tree = kept.1.0 ∙ rows.1.0 in
      let none : r.now.trees ace2_tree ≡ [] = kept.1.1.1.1.1.0 ∙ made.3 in
      let copied = copies.made got.0 none (subst (AllByRecursion HasFirstMask) (sym former) masks) in
      let emptied = empties.made copied.0 in (
        emptied.0,
        emptied.1 ∙ copied.1
            ∙ (λ i. record { nodes = (kept.0 ∙ rows.0) i; entries = map widened_row (former i); members = (kept.1.1.0 ∙ rows.1.1.0) i; gone = (kept.1.1.1.0 ∙ rows.1.1.1.0) i; meta = (kept.1.1.1.1.0 ∙ rows.1.1.1.1.0) i; reach = got.2 i }),
      );
}

-- ---- the version

pub reversioned : (a b c : State) (shown : List Row) → Looks a b → ShowsRows a meta_shown shown → are_first_meta shown ≡ true → BecomesIf b c (λ rows. (epoch : ℕ) × IsFirstMeta rows.meta epoch) renumbered → Reversions a c
reversioned a b c shown looks shows passes becomes = record {
  inside = becomes.inside;
  was_open = shows.0;
  is_open = becomes.is_open;
  first = λ book. version_first a shown shows book passes;
  rows = λ book.
      let same = looks.same book in
      let done = becomes.rows (subst IsBook (sym same) book) (subst (λ (d : Database). (epoch : ℕ) × IsFirstMeta (rows_of d.trees).meta epoch) (sym same) (version_first a shown shows book passes)) in
      (done.0, done.1 ∙ ap (λ (d : Database). renumbered (rows_of d.trees)) same);
}

pub other_version : (a : State) (shown : List Row) → ShowsRows a meta_shown shown → are_first_meta shown ≡ false → IsBook a.now → (epoch : ℕ) → ¬ (IsFirstMeta (rows_of a.now.trees).meta epoch)
other_version a shown shows fails book epoch first = true≢false (sym (first_version a shown shows book epoch first) ∙ fails)

-- ---- the masks

module _ (f : Row → Row) where
  all_listed : (p : Row → Bool) (rows : List Row) → list_all p (map f rows) ≡ true → AllByRecursion (λ r. IsTrue (p (f r))) rows
  all_listed p [] h = tt
  all_listed p (r ∷ rows) h = let both = and_parts (p (f r)) (list_all p (map f rows)) h in (both.0, all_listed p rows both.1)

  listed_all : (p : Row → Bool) (rows : List Row) → AllByRecursion (λ r. IsTrue (p (f r))) rows → list_all p (map f rows) ≡ true
  listed_all p [] all = refl
  listed_all p (r ∷ rows) all = rw (all.0) (listed_all p rows all.1)

all_by_any : (p : Row → Bool) (rows : List Row) → list_all p rows ≡ not (list_any (λ r. not (p r)) rows)
all_by_any p [] = refl
all_by_any p (r ∷ rows) = go (p r) (all_by_any p rows)
  where
    go : (b : Bool) → list_all p rows ≡ not (list_any (λ r. not (p r)) rows) → (b && list_all p rows) ≡ not (not b || list_any (λ r. not (p r)) rows)
    go true more = more
    go false more = refl

abbrev pub mask_of_row : Row → Row
mask_of_row row = ace_mask row ∷ []

abbrev is_mask : Row → Bool
is_mask row = is_first_mask (column row 0)

module _ (rows shown : List Row) (same : IsPermutation (map mask_of_row rows) shown) where
  same_test : list_all is_mask (map mask_of_row rows) ≡ list_all is_mask shown
  same_test = all_by_any is_mask (map mask_of_row rows) ∙ ap not (list_any-IsPermutation (λ r. not (is_mask r)) _ _ same) ∙ sym (all_by_any is_mask shown)

  masks_first : list_all is_mask shown ≡ true → AllByRecursion HasFirstMask rows
  masks_first passes = all_listed mask_of_row is_mask rows (same_test ∙ passes)

  first_masks : AllByRecursion HasFirstMask rows → list_all is_mask shown ≡ true
  first_masks all = sym same_test ∙ listed_all mask_of_row is_mask rows all

  pub as_many : length shown ≡ length rows
  as_many = length_permutation _ _ same ∙ length-map rows mask_of_row

-- ---- all steps

module _ (old read : State) (shown : List Row) (shows : ShowsMasks old read shown) where
  -- tables of which some mask is no first one are not renewed
  pub masks_fail : list_all is_mask shown ≡ false → HasTables first_schema old.now → ¬ (AreFirstRows (first_rows_of old.now.trees))
  masks_fail fails first are = true≢false (sym (first_masks (old.now.trees ace_tree) shown (shows.rows first.schema).1 are.masks) ∙ fails)

  module _ (passes : list_all is_mask shown ≡ true) (tables : State) (retables : Retables read tables) where
    masks_pass : HasTables first_schema old.now → AllByRecursion HasFirstMask (old.now.trees ace_tree)
    masks_pass first = masks_first (old.now.trees ace_tree) shown (shows.rows first.schema).1 passes

    made_tables : HasTables first_schema old.now → IsBook tables.now × (rows_of tables.now.trees ≡ record (first_rows_of old.now.trees) { entries = map widened_row (old.now.trees ace_tree) })
    made_tables first =
        let same = (shows.rows first.schema).0 in
        let made = retables.made (subst (HasTables first_schema) (sym same) first) (subst (λ (d : Database). AllByRecursion HasFirstMask (d.trees ace_tree)) (sym same) (masks_pass first)) in
        (made.0, made.1 ∙ ap (λ (d : Database). record (first_rows_of d.trees) { entries = map widened_row (d.trees ace_tree) }) same)

    meta_same : (first : HasTables first_schema old.now) → (rows_of tables.now.trees).meta ≡ (first_rows_of old.now.trees).meta
    meta_same first = ap (λ (r : Rows). r.meta) (made_tables first).1

    pub version_fails : (IsBook tables.now → (epoch : ℕ) → ¬ (IsFirstMeta (rows_of tables.now.trees).meta epoch)) → HasTables first_schema old.now → ¬ (AreFirstRows (first_rows_of old.now.trees))
    version_fails none first are = none (made_tables first).0 are.epoch (subst (λ m. IsFirstMeta m are.epoch) (sym (meta_same first)) are.version)

    pub renewal : (new : State) → Reversions tables new → Renewed old new (length shown)
    renewal new reversions = record {
      inside = reversions.inside;
      was_open = shows.was_open;
      is_open = reversions.is_open;
      first = λ first.
          let version = reversions.first (made_tables first).0 in
          record { masks = masks_pass first; epoch = version.0; version = subst (λ m. IsFirstMeta m version.0) (meta_same first) version.1 };
      made = λ first.
          let done = reversions.rows (made_tables first).0 in
          (done.0, done.1 ∙ ap renumbered (made_tables first).1);
      counted = λ first. as_many (old.now.trees ace_tree) shown (shows.rows first.schema).1;
    }
