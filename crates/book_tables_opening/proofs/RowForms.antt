-- Rows that pass have the forms of rows that give an Office.
use Rattle.book_tables_opening.proofs.Common.{◌≡◌, ℕ, ℤ, pos, ◌+◌, ◌≤◌, true, ◌&&◌, nat_eq, List, [], ◌∷◌, map, drop, length, Option, Some, None, option_map, refl, sym, ap, subst, ◌∙◌, true≢false, arith, AllByRecursion, and_parts, same_Some, Value, Int, id_in, Database, IsDatabase, Row, rowid, Has, all_has, IsPath, path_text, book_path, kind_of, Path, is_same, same_itself, some_apart, one_text, entries_shown, gone_shown, meta_shown, ace_deny, ace_form, ace_invert, ace_mask, ace_node, ace_place, ace_principal, ace_protected, gone_book, gone_name, gone_number, meta_epoch, meta_version, node_parent, entry_principal, number_in, Rows, rows_of, IsBook, book_schema, is_at, row_at, kind_code, flag_in, IsParent, IsNode, IsEntry, IsRemoved, nodes_of, found_has, has_text, all_from_has, is_of_kind, number_at, node_shown, whole_nodes, IsBelow, IsNodeRow, IsEntryRow, IsGoneRow, IsMetaRows}
use Rattle.sqlite.specs.Table.{Table}
use Rattle.sqlite_catalog.specs.Listing.{IsSound}
use Rattle.sqlite_schema.specs.Rules.{are_typed, has_computed}
use Rattle.sqlite_schema.specs.declared.schema.Column.{Column}
use Rattle.sqlite_schema.specs.declared.schema.Constraint.TheVariants.{Datatype}
use Rattle.book_office_values.specs.declared.paths.Path.TheVariants as path
use Rattle.book_tables_rows.specs.Lists.{entry_deny, entry_form, entry_invert, entry_mask}
use Rattle.book_tables_rows.specs.Schema.{ace2_table, meta_table}
use Rattle.book_tables_rows.specs.Writes.{IsMeta}
use Rattle.book_tables_rows.proofs.Shapes.{key_is}
use Rattle.book_tables.proofs.Acting.{AreNodes}
use Rattle.book_tables.proofs.ChildRows.{found_once}
use Rattle.book_tables_opening.proofs.ShownNodes.{number_shown, node_of_is}

pub all_mapped : {X Y : Type 0} (f : X → Y) (P : Y → Type 0) (xs : List X) → AllByRecursion P (map f xs) → AllByRecursion (λ x. P (f x)) xs
all_mapped f P [] all = tt
all_mapped f P (x ∷ xs) all = (all.0, all_mapped f P xs all.1)

-- ---- how long rows are

typed_width : (key : Option ℕ) (at : ℕ) (cs : List Column) (vs : Row) → are_typed key at cs vs ≡ true → length vs ≤ length cs
typed_width key at [] [] h = omega arith
typed_width key at [] (v ∷ vs) h = absurd (true≢false (sym h))
typed_width key at (c ∷ cs) [] h = omega arith
typed_width key at (c ∷ cs) (v ∷ vs) h = let more : length vs ≤ length cs = typed_width key (at + 1) cs vs (and_parts _ (are_typed key (at + 1) cs vs) h).1 in omega (arith, more)

-- a row is no longer than its table says
pub table_width : (table : Table) (row : Row) → (are_typed table.key 0 table.columns (drop 1 row) && has_computed table row) ≡ true → length (drop 1 row) ≤ length table.columns
table_width table row h = typed_width table.key 0 table.columns (drop 1 row) (and_parts (are_typed table.key 0 table.columns (drop 1 row)) (has_computed table row) h).0

three : (r : Row) (n : ℤ) → length (drop 1 r) ≤ 2 → meta_epoch r ≡ Int n → r ≡ rowid r ∷ meta_version r ∷ meta_epoch r ∷ []
three [] n fits is = absurd cc
three (a ∷ []) n fits is = absurd cc
three (a ∷ b ∷ []) n fits is = absurd cc
three (a ∷ b ∷ c ∷ []) n fits is = refl
three (a ∷ b ∷ c ∷ d ∷ r) n fits is = absurd (omega (arith, fits))

five : (r : Row) (n : ℤ) → length r ≤ 5 → entry_mask r ≡ Int n → r ≡ entry_form r ∷ entry_principal r ∷ entry_invert r ∷ entry_deny r ∷ entry_mask r ∷ []
five [] n fits is = absurd cc
five (a ∷ []) n fits is = absurd cc
five (a ∷ b ∷ []) n fits is = absurd cc
five (a ∷ b ∷ c ∷ []) n fits is = absurd cc
five (a ∷ b ∷ c ∷ d ∷ []) n fits is = absurd cc
five (a ∷ b ∷ c ∷ d ∷ e ∷ []) n fits is = refl
five (a ∷ b ∷ c ∷ d ∷ e ∷ f ∷ r) n fits is = absurd (omega (arith, fits))

pub nine : (r : Row) (n : ℤ) → length (drop 1 r) ≤ 8 → ace_mask r ≡ Int n → drop 4 r ≡ ace_form r ∷ ace_principal r ∷ ace_invert r ∷ ace_deny r ∷ ace_mask r ∷ []
nine [] n fits is = absurd cc
nine (a ∷ []) n fits is = absurd cc
nine (a ∷ b ∷ []) n fits is = absurd cc
nine (a ∷ b ∷ c ∷ []) n fits is = absurd cc
nine (a ∷ b ∷ c ∷ d ∷ r) n fits is = five r n (omega (arith, fits)) is

-- ---- `meta`

one_meta : (meta : List Row) (epoch : ℕ) → AllByRecursion (λ r. length (drop 1 r) ≤ 2) meta
    → map (λ row. meta_version row ∷ meta_epoch row ∷ []) meta ≡ (Int (pos 2) ∷ Int (pos epoch) ∷ []) ∷ [] → IsMeta meta epoch
one_meta [] epoch widths is = absurd cc
one_meta (r ∷ s ∷ more) epoch widths is = absurd cc
one_meta (r ∷ []) epoch widths is =
    let version : meta_version r ≡ Int (pos 2) = cc in
    let last : meta_epoch r ≡ Int (pos epoch) = cc in
    (rowid r, ap (λ x. x ∷ []) (three r (pos epoch) widths.0 last ∙ (λ i. rowid r ∷ version i ∷ last i ∷ [])))

-- ---- nodes

-- a path whose kind is a book's is that of a book
pub book_at : (p : Path) → nat_eq (kind_code (kind_of p)) 4 ≡ true → (b : List ℕ) × (p ≡ path.Book b)
book_at path.Root h = absurd (true≢false (sym h))
book_at path.People h = absurd (true≢false (sym h))
book_at path.Groups h = absurd (true≢false (sym h))
book_at path.Books h = absurd (true≢false (sym h))
book_at (path.Person n) h = absurd (true≢false (sym h))
book_at (path.Group n) h = absurd (true≢false (sym h))
book_at (path.Book b) h = (b, refl)
book_at (path.Card b c) h = absurd (true≢false (sym h))

abbrev pub entry_shown : Row → Row
entry_shown row = ace_node row ∷ ace_protected row ∷ ace_place row ∷ ace_form row ∷ ace_principal row ∷ ace_invert row ∷ ace_deny row ∷ ace_mask row ∷ []

abbrev pub name_shown : Row → Row
name_shown row = gone_book row ∷ gone_name row ∷ gone_number row ∷ []

module _ (db : Database) (book : IsBook db) where
  abbrev pub rows : Rows
  rows = rows_of db.trees

  abbrev pub nodes : List Row
  nodes = whole_nodes rows

  pub table_nodes : AreNodes rows
  table_nodes = nodes_of db book

  typed_rows : IsSound book_schema db.trees
  typed_rows = subst (λ k. IsDatabase (record { schema = k; trees = db.trees })) book.schema book.rules

  pub number_of_node : (row : Row) → Has rows.nodes row → rowid row ≡ Int (id_in (rowid row))
  number_of_node row there = key_is row (all_has _ rows.nodes row table_nodes.shaped.1 there)

  -- the value that is the number of the shown row at a path is that of a row at the path
  pub numbered_at : (t : List ℕ) (id : ℤ) → number_at nodes t ≡ Some id → (row : Row) × (row_at rows t ≡ Some row) × (Int id ≡ rowid row)
  numbered_at t id h = of_row (row_at rows t) refl (sym (number_shown rows t) ∙ h)
    where
      of_row : (r : Option Row) → row_at rows t ≡ r → option_map (λ row. id_in (rowid row)) r ≡ Some id → (row : Row) × (row_at rows t ≡ Some row) × (Int id ≡ rowid row)
      of_row None at e = some_apart (sym e)
      of_row (Some row) at e = (row, at, ap Int (sym (same_Some _ _ e)) ∙ sym (number_of_node row (found_has (is_at t) rows.nodes row at).0))

  parent_is : (above : Option Path) (v : Value) → IsBelow nodes above v → IsParent rows v above
  parent_is None v below = below
  parent_is (Some q) v below = let row = numbered_at (path_text q) below.0 below.1 in (row.0, row.1, below.2 ∙ row.2)

  pub node_is : (row : Row) → IsNodeRow nodes (node_shown row) → IsNode rows row
  node_is row f = (f.at, record { named = f.named; path = f.path; parent = parent_is _ (node_parent row) f.parent; kind = f.kind; number = f.natural })

  -- the row at the path of a row is this row
  pub found_row : (row : Row) → Has rows.nodes row → (f : IsNodeRow nodes (node_shown row)) → row_at rows (path_text f.at) ≡ Some row
  found_row row there f = found_once (is_at (path_text f.at)) rows.nodes row (table_nodes.once (path_text f.at)) there (has_text 2 row (path_text f.at) (path_text f.at) f.path ∙ same_itself (path_text f.at))

  module _ (each : AllByRecursion (λ row. IsNodeRow nodes (node_shown row)) rows.nodes) where
    pub nodes_are : AllByRecursion (IsNode rows) rows.nodes
    nodes_are = all_from_has (IsNode rows) rows.nodes (λ row there. node_is row (all_has _ rows.nodes row each there))

    -- the row at the text of a path is that of the path
    pub row_of_path : (p : Path) → IsPath p → (row : Row) → row_at rows (path_text p) ≡ Some row → (f : IsNodeRow nodes (node_shown row)) × (f.at ≡ p)
    row_of_path p is_path row found =
        let there = found_has (is_at (path_text p)) rows.nodes row found in
        let f : IsNodeRow nodes (node_shown row) = all_has _ rows.nodes row each there.0 in
        (f, one_text f.at p f.named is_path (is_same (path_text f.at) (path_text p) (sym (has_text 2 row (path_text f.at) (path_text p) f.path) ∙ there.1)))

    -- ---- entries

    entry_is : (row : Row) → Has rows.entries row → IsEntryRow nodes (entry_shown row) → IsEntry rows row
    entry_is row there f =
        let node = node_of_is rows (ace_node row) f.node f.there in
        let width = table_width ace2_table row (all_has _ rows.entries row (typed_rows.obeys.rules Datatype).1.1.1.1.1.0 there) in
        record {
          node = node.0;
          there = node.1;
          its = node.3;
          list = flag_in (ace_protected row);
          protected = f.spelled.protected;
          place = f.spelled.place;
          spelled = nine row _ width (ap entry_mask f.spelled.spelled) ∙ f.spelled.spelled;
        }

    pub entries_are : AllByRecursion (IsEntryRow nodes) (entries_shown rows) → AllByRecursion (IsEntry rows) rows.entries
    entries_are all = all_from_has (IsEntry rows) rows.entries (λ row there. entry_is row there (all_has _ rows.entries row (all_mapped entry_shown (IsEntryRow nodes) rows.entries all) there))

    -- ---- removed names

    -- the book of a removed name, and its row
    pub book_of_name : (row : Row) (f : IsGoneRow nodes (name_shown row)) → (r : Row) × Has rows.nodes r × (f.book ≡ node_shown r) × (gone_book row ≡ rowid r)
        × (b : List ℕ) × IsPath (path.Book b) × (row_at rows (book_path b) ≡ Some r)
    book_of_name row f =
        let r = node_of_is rows (gone_book row) f.book f.there in
        let g : IsNodeRow nodes (node_shown r.0) = all_has _ rows.nodes r.0 each r.1 in
        let at = book_at g.at (sym (ap (λ v. nat_eq (number_in v) 4) g.kind) ∙ sym (ap (is_of_kind 4) r.2) ∙ f.kind) in
        (r.0, r.1, r.2, r.3, at.0, subst IsPath at.1 g.named, ap (λ p. row_at rows (path_text p)) (sym at.1) ∙ found_row r.0 r.1 g)

    removed_is : (row : Row) → IsGoneRow nodes (name_shown row) → IsRemoved rows row
    removed_is row f =
        let its = book_of_name row f in
        record { book = its.4; named = its.5; there = (its.0, its.6, its.3); name = f.name; spelled = f.name_is; number = f.natural }

    pub removed_are : AllByRecursion (IsGoneRow nodes) (gone_shown rows) → AllByRecursion (IsRemoved rows) rows.gone
    removed_are all = all_from_has (IsRemoved rows) rows.gone (λ row there. removed_is row (all_has _ rows.gone row (all_mapped name_shown (IsGoneRow nodes) rows.gone all) there))

  pub meta_is : (f : IsMetaRows (meta_shown rows)) → IsMeta rows.meta f.epoch
  meta_is f = one_meta rows.meta f.epoch
      (all_from_has _ rows.meta (λ row there. table_width meta_table row (all_has _ rows.meta row (typed_rows.obeys.rules Datatype).1.1.1.1.0 there))) f.rows
