-- The steps by which tables of the former order become those of a store, joined.
use Rattle.std.proofs.Common.{◌≡◌, ◌≢◌, ◌==◌, ℕ, suc, Bool, true, [], ◌∷◌, List, map, length, refl, sym, ap, subst, ◌∙◌, IsPermutation, arith}
use Rattle.std.proofs.lemmas.Bool.{eqb-true}
use Rattle.sqlite.specs.Effect.{Database}
use Rattle.sqlite.specs.Order.{Row}
use Rattle.sqlite.specs.State.{State}
use Rattle.std.proofs.lemmas.List.Sorted.{length_permutation}
use Rattle.book_tables_rows.specs.Rows.{Rows, rows_of, IsBook}
use Rattle.book_tables_rows.specs.Schema.{first_schema, ace_tree, ace2_tree}
use Rattle.book_tables_rows.proofs.Becoming.{empty_permutation}
use Rattle.book_tables_schema.specs.FormerOrder.{DropsFormer}
use Rattle.book_tables_schema.specs.Founding.{GetsDerived, Renews}
use Rattle.book_tables_schema.specs.Layout.{former_tree}
use Rattle.book_tables_schema.specs.OtherReach.{schema_of}
use Rattle.book_tables_schema.specs.Renewing.{Empties}
use Rattle.book_tables_schema.specs.Tabled.{HasTables}
use Rattle.book_tables_schema.specs.declared.layout.Generation.TheVariants.{Former}
use Rattle.book_tables_renewing.specs.Renewal.{first_rows_of, ShowsMasks}
use Rattle.book_tables_renewing.specs.Reordering.{former_rows_of, CopiesBack, Moves, Reordered, Restores}
use Rattle.book_tables_renewing.proofs.Renewals.{as_many, mask_of_row, renewed_tables}

pub restored : (a b r c d : State) → Renews a b → GetsDerived b r → CopiesBack r c → Empties c d → Restores a d
restored a b r c d renews gets copies empties = record {
  inside = empties.inside;
  was_open = renews.was_open;
  is_open = empties.is_open;
  made = λ first.
      let made = renews.made first.schema in
      let got = gets.made (renewed_tables a b renews first) in
      let rows = made.2 in
      let kept = got.1 in
      let former : r.now.trees ace_tree ≡ a.now.trees ace_tree = kept.1.0 ∙ rows.1.0 in
      let none : r.now.trees ace2_tree ≡ [] = kept.1.1.1.1.1.0 ∙ made.3 in
      let copied = copies.made got.0 none in
      let emptied = empties.made copied.0 in (
        emptied.0,
        emptied.1 ∙ copied.1
            ∙ (λ i. record { nodes = (kept.0 ∙ rows.0) i; entries = former i; members = (kept.1.1.0 ∙ rows.1.1.0) i; gone = (kept.1.1.1.0 ∙ rows.1.1.1.0) i; meta = (kept.1.1.1.1.0 ∙ rows.1.1.1.1.0) i; reach = got.2 i }),
      );
}

-- the entries are in `ace`, and the tables are those of version 1
module _ (a m d : State) (moves : Moves a m) (drops : DropsFormer m d) (tables : HasTables (schema_of Former) a.now) (empty : a.now.trees ace_tree ≡ []) where
  first_there : HasTables first_schema d.now
  first_there = (drops.made (moves.made tables empty).0).0

  first_rows_are : first_rows_of d.now.trees ≡ former_rows_of a.now.trees
  first_rows_are =
      let moved = moves.made tables empty in
      let kept = (drops.made moved.0).1 in
      let rows = moved.2 in
      let nodes = kept.0 ∙ rows.0 (λ e. omega (arith, e)) in
      let entries = kept.1.0 ∙ moved.1 in
      let members = kept.1.1.0 ∙ rows.1.1.0 (λ e. omega (arith, e)) in
      let gone = kept.1.1.1.0 ∙ rows.1.1.1.0 (λ e. omega (arith, e)) in
      let meta = kept.1.1.1.1.0 ∙ rows.1.1.1.1.0 (λ e. omega (arith, e)) in
      λ i. record { nodes = nodes i; entries = entries i; members = members i; gone = gone i; meta = meta i; reach = [] }

-- a list that is told to be empty is
pub none_shown : (rows : List Row) (many : ℕ) (is_empty : Bool) → many ≡ length rows → is_empty ≡ (many == 0) → is_empty ≡ true → rows ≡ []
none_shown [] many is_empty counts tells is = refl
none_shown (r ∷ rows) many is_empty counts tells is =
    let none : many ≡ 0 = eqb-true many 0 (sym tells ∙ is) in
    let some : many ≡ suc (length rows) = counts in
    absurd (omega (arith, none, some))

-- no mask is shown of no row, and none of none alone
none_there : (rows shown : List Row) → IsPermutation (map mask_of_row rows) shown → shown ≡ [] → rows ≡ []
none_there [] shown same none = refl
none_there (r ∷ rows) shown same none =
    let many : length shown ≡ suc (length (map mask_of_row rows)) = length_permutation _ _ same in
    let few : length shown ≡ 0 = ap length none in
    absurd (omega (arith, many, few))

pub not_reordered : (old read : State) (shown : List Row) → ShowsMasks old read shown → shown ≢ [] → HasTables (schema_of Former) old.now → old.now.trees ace_tree ≢ []
not_reordered old read shown shows some tables empty =
    some (empty_permutation shown (subst (λ rows. IsPermutation (map mask_of_row rows) shown) empty (shows.former tables.schema).1))

module _ (old read m d e new : State) (shown entries : List Row) (shows : ShowsMasks old read shown) (none : shown ≡ []) (moves : Moves read m) (drops : DropsFormer m d) (counts : ShowsMasks d e entries) (restores : Restores e new)
    (tables : HasTables (schema_of Former) old.now) where
  read_same : read.now ≡ old.now
  read_same = (shows.former tables.schema).0

  was_empty : old.now.trees ace_tree ≡ []
  was_empty = none_there (old.now.trees ace_tree) shown (shows.former tables.schema).1 none

  read_tables : HasTables (schema_of Former) read.now
  read_tables = subst (HasTables (schema_of Former)) (sym read_same) tables

  read_empty : read.now.trees ace_tree ≡ []
  read_empty = ap (λ (db : Database). db.trees ace_tree) read_same ∙ was_empty

  between : HasTables first_schema d.now
  between = first_there read m d moves drops read_tables read_empty

  rows_between : first_rows_of d.now.trees ≡ former_rows_of old.now.trees
  rows_between = first_rows_are read m d moves drops read_tables read_empty ∙ ap (λ (db : Database). former_rows_of db.trees) read_same

  counted_same : e.now ≡ d.now
  counted_same = (counts.rows between.schema).0

  made_anew : IsBook new.now × (rows_of new.now.trees ≡ former_rows_of old.now.trees)
  made_anew =
      let done = restores.made (subst (HasTables first_schema) (sym counted_same) between) in
      (done.0, done.1 ∙ ap (λ (db : Database). first_rows_of db.trees) counted_same ∙ rows_between)

  counts_are : length entries ≡ length (old.now.trees former_tree)
  counts_are = as_many (d.now.trees ace_tree) entries (counts.rows between.schema).1 ∙ ap (λ (r : Rows). length r.entries) rows_between

pub reordered : (old read m d e new : State) (shown entries : List Row) → ShowsMasks old read shown → shown ≡ [] → Moves read m → DropsFormer m d → ShowsMasks d e entries → Restores e new → Reordered old new (length entries)
reordered old read m d e new shown entries shows none moves drops counts restores = record {
  inside = restores.inside;
  was_open = shows.was_open;
  is_open = restores.is_open;
  made = λ tables. let made = made_anew old read m d e new shown entries shows none moves drops counts restores tables in (was_empty old read m d e new shown entries shows none moves drops counts restores tables, made.0, made.1);
  counted = counts_are old read m d e new shown entries shows none moves drops counts restores;
}
