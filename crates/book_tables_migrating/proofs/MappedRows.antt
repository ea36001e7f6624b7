-- Rows whose entries were widened give the widened Office, and the other way round.
use Rattle.std.proofs.Common.{◌≡◌, inl, inr, ℕ, pos, negsuc, ◌<◌, ◌≤◌, Bool, true, false, not, cond, ◌&&◌, ◌||◌, nat_eq, List, [], ◌∷◌, map, filter, drop, length, Option, Some, None, option_map, refl, sym, ap, subst, ◌∙◌, true≢false, IsTrue, is_gt, Ordering, arith}
use Rattle.std.specs.List.{AllByRecursion}
use Rattle.std.proofs.lemmas.Bool.{ltb-true}
use Rattle.sqlite.specs.declared.types.Value.{Value}
use Rattle.sqlite.specs.declared.types.Value.TheVariants.{Null, Int, Real, Text, Blob}
use Rattle.sqlite.specs.Effect.{Database}
use Rattle.sqlite.specs.Order.{Row, column}
use Rattle.sqlite.specs.Schema.{Schema}
use Rattle.sqlite_catalog.specs.Listing.{IsSound as IsSoundStore}
use Rattle.sqlite_keyed.specs.Lists.{insert_sorted, sort_by}
use Rattle.sqlite_rules.specs.Lists.{Has}
use Rattle.sqlite_rules.proofs.ListLemmas.{all_has}
use Rattle.sqlite_schema.specs.declared.schema.Constraint.TheVariants.{Datatype}
use Rattle.sqlite_trees.proofs.ListLemmas.{all-filter}
use Rattle.book_rights.specs.declared.privileges.Leaf.{Leaf}
use Rattle.book_rights.specs.declared.privileges.Leaf.TheVariants.{ReadTexts, WriteContent, WriteProperties, Bind, Unbind, ReadAcl, WriteAcl, ReadCurrentUserPrivilegeSet, ReadNames}
use Rattle.book_rights.specs.Leaves.{place_of, each_leaf, leaves_in, mask_of, mask_of-leaves_in, all_below_tells}
use Rattle.book_lists.specs.declared.entries.Entry.{Entry}
use Rattle.book_lists.specs.Widening.{IsOfFirst, widened, widened_entry, widened_mask}
use Rattle.book_lists.proofs.Widened.{masks_widened}
use Rattle.book_office_values.specs.declared.offices.Office.{Office}
use Rattle.book_office_values.specs.Paths.{path_text}
use Rattle.book_office.specs.Sound.{IsSound}
use Rattle.book_tables_rows.specs.Columns.{ace_mask}
use Rattle.book_tables_rows.specs.Nodes.{number_in}
use Rattle.book_tables_rows.specs.Rows.{Rows, rows_of, IsBook}
use Rattle.book_tables_rows.specs.Schema.{first_schema, ace_table}
use Rattle.book_tables_rows.specs.Writes.{by_place, entries_of, is_entry}
use Rattle.book_tables_schema.specs.Renewing.{renumbered, widened_row}
use Rattle.book_tables_schema.specs.Tabled.{HasTables}
use Rattle.book_tables_schema.specs.declared.layout.Generation.TheVariants.{First}
use Rattle.book_tables_schema.proofs.DroppedReach.{plain_beside}
use Rattle.book_tables_schema.proofs.WidenedRows.{lists_kept}
use Rattle.book_tables_renewing.specs.Renewal.{first_rows_of, is_first_mask, HasFirstMask, AreFirstRows, renewed}
use Rattle.book_tables.specs.Rows.{entry_of, list_in, resource_of, row_at}
use Rattle.book_tables.specs.Stands.{IsNode, IsEntry, IsRemoved, Gives, Stands}
use Rattle.book_tables.proofs.OneOffice.{base_of}
use Rattle.book_tables.proofs.RowFacts.{KeepsNumbers, kept_node, kept_removed}
use Rattle.book_tables_opening.proofs.RowForms.{table_width, nine}
use Rattle.book_tables_migrating.specs.Migrating.{HasBefore, StandsFirst}
use Rattle.book_tables_migrating.specs.Widen.{office_with, widen}
use Rattle.book_tables_migrating.proofs.MappedOffices.{resource_with, resource_mapped, removed_mapped, sound_still}

all_weaker : {A : Type 0} (P Q : A → Type 0) → ((x : A) → P x → Q x) → (xs : List A) → AllByRecursion P xs → AllByRecursion Q xs
all_weaker P Q f [] all = tt
all_weaker P Q f (x ∷ xs) all = (f x all.0, all_weaker P Q f xs all.1)

-- ---- other entries in the same tables

module _ (change : Entry → Entry) (rows : Rows) (entries : List Row) where
  abbrev after : Rows
  after = record rows { entries = entries }

  keeps : KeepsNumbers rows after
  keeps t r found = (r, found, refl)

  module _ (same : (id : Value) (protected : Bool) → list_in entries id protected ≡ map change (list_in rows.entries id protected)) where
    resource_same : (row : Row) → resource_of entries row ≡ resource_with change (resource_of rows.entries row)
    resource_same row = λ i. record (resource_of rows.entries row) { protected = same (column row 0) true i; own = same (column row 0) false i }

    found_same : (found : Option Row) → option_map (resource_of entries) found ≡ option_map (resource_with change) (option_map (resource_of rows.entries) found)
    found_same None = refl
    found_same (Some row) = ap Some (resource_same row)

    pub gives_changed : (o : Office) → Gives rows o → AllByRecursion (IsEntry after) entries → Gives after (office_with change o)
    gives_changed o gives spelled = record {
      nodes = all_weaker (IsNode rows) (IsNode after) (kept_node rows after keeps) rows.nodes gives.nodes;
      entries = spelled;
      removed = all_weaker (IsRemoved rows) (IsRemoved after) (kept_removed rows after keeps) rows.gone gives.removed;
      resources = λ p named. found_same (row_at rows (path_text p)) ∙ ap (option_map (resource_with change)) (gives.resources p named) ∙ sym (resource_mapped change o p);
      members = gives.members;
      gone = λ b name named. gives.gone b name named ∙ sym (removed_mapped change o b name);
      meta = gives.meta;
    }

-- ---- the other way round

-- a set without `x-read-names`
abbrev narrowed : (Leaf → Bool) → Leaf → Bool
narrowed set leaf = set leaf && not (nat_eq (place_of leaf) (place_of ReadNames))

abbrev narrowed_entry : Entry → Entry
narrowed_entry e = record e { set = narrowed e.set }

pub narrow : Office → Office
narrow = office_with narrowed_entry

back : (b : Bool) → ((b || false) && true) ≡ b
back true = refl
back false = refl

never : (b : Bool) → (b && false) ≡ false
never true = refl
never false = refl

narrowed_back : (set : Leaf → Bool) → IsOfFirst set → narrowed (widened set) ≡ set
narrowed_back set first = λ i leaf. each_leaf (λ leaf. narrowed (widened set) leaf ≡ set leaf)
    (back (set ReadTexts)) (back (set WriteContent)) (back (set WriteProperties)) (back (set Bind)) (back (set Unbind))
    (back (set ReadAcl)) (back (set WriteAcl)) (back (set ReadCurrentUserPrivilegeSet)) (never (widened set ReadNames) ∙ sym first) leaf i

-- ---- an entry of version 1

pub mask_told : (v : Value) → IsTrue (is_first_mask v) → (m : ℕ) × (m < 256) × (v ≡ Int (pos m))
mask_told Null h = absurd (true≢false (sym h))
mask_told (Int (pos m)) h = (m, ltb-true m 256 h, refl)
mask_told (Int (negsuc m)) h = absurd (true≢false (sym h))
mask_told (Real x) h = absurd (true≢false (sym h))
mask_told (Text t) h = absurd (true≢false (sym h))
mask_told (Blob b) h = absurd (true≢false (sym h))

of_first_mask : (m : ℕ) → m < 256 → IsOfFirst (leaves_in m)
of_first_mask m below =
    let all = all_below_tells (λ m. not (leaves_in m ReadNames)) 256 m refl below in
    elim (leaves_in m ReadNames) as (λ b. not b ≡ true → b ≡ false) [ true ↦ λ h. absurd (true≢false (sym h)) | false ↦ λ h. refl ] all

module _ (row : Row) (first : HasFirstMask row) where
  told : (m : ℕ) × (m < 256) × (ace_mask row ≡ Int (pos m))
  told = mask_told (ace_mask row) first

  number_is : number_in (ace_mask row) ≡ told.0
  number_is = ap number_in told.2

  below : number_in (ace_mask row) < 256
  below = subst (λ n. n < 256) (sym number_is) told.1

  mask_is : ace_mask row ≡ Int (pos (number_in (ace_mask row)))
  mask_is = told.2 ∙ ap (λ n. Int (pos n)) (sym number_is)

  pub entry_first : IsOfFirst (entry_of row).set
  entry_first = of_first_mask (number_in (ace_mask row)) below

  pub entry_widened : entry_of (widened_row row) ≡ widened_entry (entry_of row)
  entry_widened = λ i. record (entry_of row) { set = (masks_widened (number_in (ace_mask row)) below).1 i }

  pub entry_narrowed : entry_of row ≡ narrowed_entry (entry_of (widened_row row))
  entry_narrowed = sym (ap narrowed_entry entry_widened ∙ (λ i. record (entry_of row) { set = narrowed_back (entry_of row).set entry_first i }))

-- ---- lists

module _ {A : Type 0} where
  map_same : {B : Type 0} (f g : A → B) (xs : List A) → AllByRecursion (λ x. f x ≡ g x) xs → map f xs ≡ map g xs
  map_same f g [] all = refl
  map_same f g (x ∷ xs) all = λ i. all.0 i ∷ map_same f g xs all.1 i

  map_map : {B C : Type 0} (g : B → C) (f : A → B) (xs : List A) → map g (map f xs) ≡ map (λ x. g (f x)) xs
  map_map g f [] = refl
  map_map g f (x ∷ xs) = ap (λ l. g (f x) ∷ l) (map_map g f xs)

  module _ (cmp : A → A → Ordering) (P : A → Type 0) where
    all_inserted : (new : A) (xs : List A) → P new → AllByRecursion P xs → AllByRecursion P (insert_sorted cmp new xs)
    all_inserted new [] h all = (h, tt)
    all_inserted new (x ∷ xs) h all =
        elim (is_gt (cmp new x)) as (λ b. AllByRecursion P (cond b (x ∷ insert_sorted cmp new xs) (new ∷ x ∷ xs))) [ true ↦ (all.0, all_inserted new xs h all.1) | false ↦ (h, all) ]

    all_sorted : (xs : List A) → AllByRecursion P xs → AllByRecursion P (sort_by cmp xs)
    all_sorted [] all = tt
    all_sorted (x ∷ xs) all = all_inserted x (sort_by cmp xs) all.0 (all_sorted xs all.1)

entries_first : (rows : List Row) → AllByRecursion HasFirstMask rows → AllByRecursion (λ (e : Entry). IsOfFirst e.set) (map entry_of rows)
entries_first [] all = tt
entries_first (row ∷ rows) all = (entry_first row all.0, entries_first rows all.1)

module _ (entries : List Row) (masks : AllByRecursion HasFirstMask entries) where
  of_list : (id : Value) (protected : Bool) → AllByRecursion HasFirstMask (entries_of entries id protected)
  of_list id protected = all_sorted by_place HasFirstMask (filter (is_entry id protected) entries) (all-filter HasFirstMask (is_entry id protected) entries masks)

  pub list_first : (id : Value) (protected : Bool) → AllByRecursion (λ (e : Entry). IsOfFirst e.set) (list_in entries id protected)
  list_first id protected = entries_first (entries_of entries id protected) (of_list id protected)

  list_widened : (id : Value) (protected : Bool) → list_in (map widened_row entries) id protected ≡ map widened_entry (list_in entries id protected)
  list_widened id protected =
      let rows = entries_of entries id protected in
      ap (map entry_of) (lists_kept entries id protected) ∙ map_map entry_of widened_row rows
      ∙ map_same _ _ rows (all_weaker HasFirstMask _ (λ row first. entry_widened row first) rows (of_list id protected))
      ∙ sym (map_map widened_entry entry_of rows)

  list_narrowed : (id : Value) (protected : Bool) → list_in entries id protected ≡ map narrowed_entry (list_in (map widened_row entries) id protected)
  list_narrowed id protected =
      let rows = entries_of entries id protected in
      map_same _ _ rows (all_weaker HasFirstMask _ (λ row first. entry_narrowed row first) rows (of_list id protected))
      ∙ sym (map_map narrowed_entry (λ row. entry_of (widened_row row)) rows)
      ∙ ap (map narrowed_entry) (sym (map_map entry_of widened_row rows) ∙ ap (map entry_of) (sym (lists_kept entries id protected)))

-- ---- spelling

fourth : (r : Row) → column (drop 4 r) 0 ≡ column r 4
fourth [] = refl
fourth (a ∷ []) = refl
fourth (a ∷ b ∷ []) = refl
fourth (a ∷ b ∷ c ∷ []) = refl
fourth (a ∷ b ∷ c ∷ d ∷ r) = refl

fifth : (r : Row) → column (drop 4 r) 1 ≡ column r 5
fifth [] = refl
fifth (a ∷ []) = refl
fifth (a ∷ b ∷ []) = refl
fifth (a ∷ b ∷ c ∷ []) = refl
fifth (a ∷ b ∷ c ∷ d ∷ r) = refl

sixth : (r : Row) → column (drop 4 r) 2 ≡ column r 6
sixth [] = refl
sixth (a ∷ []) = refl
sixth (a ∷ b ∷ []) = refl
sixth (a ∷ b ∷ c ∷ []) = refl
sixth (a ∷ b ∷ c ∷ d ∷ r) = refl

seventh : (r : Row) → column (drop 4 r) 3 ≡ column r 7
seventh [] = refl
seventh (a ∷ []) = refl
seventh (a ∷ b ∷ []) = refl
seventh (a ∷ b ∷ c ∷ []) = refl
seventh (a ∷ b ∷ c ∷ d ∷ r) = refl

module _ (rows after : Rows) (nodes : after.nodes ≡ rows.nodes) (row : Row) (first : HasFirstMask row) where
  spelled_mask : (m : ℕ) → m < 512 → Int (pos m) ≡ Int (pos (mask_of (leaves_in m)))
  spelled_mask m few = ap (λ n. Int (pos n)) (sym (mask_of-leaves_in m few))

  is_widened : IsEntry rows row → IsEntry after (widened_row row)
  is_widened e =
      let at = λ (i : ℕ). ap (λ l. column l i) e.spelled in
      record {
        node = e.node;
        there = subst (λ ns. Has ns e.node) (sym nodes) e.there;
        its = e.its;
        list = e.list;
        protected = e.protected;
        place = e.place;
        spelled = λ i. (sym (fourth row) ∙ at 0) i ∷ (sym (fifth row) ∙ at 1) i ∷ (sym (sixth row) ∙ at 2) i ∷ (sym (seventh row) ∙ at 3) i
            ∷ spelled_mask (widened_mask (number_in (ace_mask row))) (masks_widened (number_in (ace_mask row)) (below row first)).0 i ∷ [];
      }

  was_widened : length (drop 1 row) ≤ 8 → IsEntry after (widened_row row) → IsEntry rows row
  was_widened few e =
      let at = λ (i : ℕ). ap (λ l. column l i) e.spelled in
      let n = number_in (ace_mask row) in
      let small = below row first in
      record {
        node = e.node;
        there = subst (λ ns. Has ns e.node) nodes e.there;
        its = e.its;
        list = e.list;
        protected = e.protected;
        place = e.place;
        spelled = nine row (pos n) few (mask_is row first) ∙ (λ i. at 0 i ∷ at 1 i ∷ at 2 i ∷ at 3 i ∷ (mask_is row first ∙ spelled_mask n (omega (arith, small))) i ∷ []);
      }

-- ---- the rows of version 1, and those that they become

module _ (db : Database) (tables : HasTables first_schema db) (are : AreFirstRows (first_rows_of db.trees)) where
  abbrev before : Rows
  before = renumbered (first_rows_of db.trees)

  abbrev entries : List Row
  entries = (first_rows_of db.trees).entries

  abbrev renewed_rows : Rows
  renewed_rows = renewed (first_rows_of db.trees)

  few_columns : (row : Row) → Has entries row → length (drop 1 row) ≤ 8
  few_columns row there =
      let sound : IsSoundStore first_schema db.trees = subst (λ s. IsSoundStore s db.trees) tables.schema tables.rules in
      table_width ace_table row (all_has _ entries row (sound.obeys.rules Datatype).1.0 there)

  masked : (row : Row) → Has entries row → HasFirstMask row
  masked row there = all_has HasFirstMask entries row are.masks there

  each_widened : (rows : List Row) → ((row : Row) → Has rows row → IsEntry before row × HasFirstMask row) → AllByRecursion (IsEntry renewed_rows) (map widened_row rows)
  each_widened [] each = tt
  each_widened (row ∷ rows) each =
      (is_widened before renewed_rows refl row (each row (inl refl)).1 (each row (inl refl)).0, each_widened rows (λ r there. each r (inr there)))

  spelled_widened : AllByRecursion (IsEntry before) entries → AllByRecursion (IsEntry renewed_rows) (map widened_row entries)
  spelled_widened all = each_widened entries (λ row there. (all_has (IsEntry before) entries row all there, masked row there))

  each_narrowed : (rows : List Row) → ((row : Row) → Has rows row → Has entries row) → AllByRecursion (IsEntry renewed_rows) (map widened_row rows) → AllByRecursion (IsEntry before) rows
  each_narrowed [] within all = tt
  each_narrowed (row ∷ rows) within all =
      (was_widened before renewed_rows refl row (masked row (within row (inl refl))) (few_columns row (within row (inl refl))) all.0, each_narrowed rows (λ r there. within r (inr there)) all.1)

  spelled_narrowed : AllByRecursion (IsEntry renewed_rows) (map widened_row entries) → AllByRecursion (IsEntry before) entries
  spelled_narrowed all = each_narrowed entries (λ row there. there) all

  gives_widened : (o : Office) → Gives before o → Gives renewed_rows (widen o)
  gives_widened o gives = gives_changed widened_entry before (map widened_row entries) (list_widened entries are.masks) o gives (spelled_widened gives.entries)

  gives_narrowed : (o : Office) → Gives renewed_rows o → Gives before (narrow o)
  unfolding narrow
  gives_narrowed o gives = gives_changed narrowed_entry renewed_rows entries (list_narrowed entries are.masks) o gives (spelled_narrowed gives.entries)

  narrow_sound : (o : Office) → IsSound o → IsSound (narrow o)
  unfolding narrow
  narrow_sound o sound = sound_still narrowed_entry (λ e. refl) o sound

pub as_first : (db : Database) → HasTables first_schema db → HasBefore First db
as_first db tables = (plain_beside First db.schema tables.schema, record { schema = refl; rules = tables.rules; rising = λ t there. tables.rising t (subst (λ (s : Schema). Has s.tables t) tables.schema there) })

-- tables that stood for an Office as those of version 1 stand for the widened one, renewed
pub widened_stands : (db : Database) → HasTables first_schema db → (o : Office) → StandsFirst db o → (new : Database) → IsBook new → rows_of new.trees ≡ renewed (first_rows_of db.trees) → Stands new (widen o)
widened_stands db tables o st new book rows = record {
  base = base_of new book;
  gives = subst (λ r. Gives r (widen o)) (sym rows) (gives_widened db tables st.first o st.gives);
  sound = sound_still widened_entry (λ e. refl) o st.sound;
}

-- and where the renewed tables stand for an Office, they stood for one whose widened one that is
pub stood_first : (db : Database) → HasTables first_schema db → AreFirstRows (first_rows_of db.trees) → (new : Database) → IsBook new → rows_of new.trees ≡ renewed (first_rows_of db.trees) → (p : Office) → Stands new p
    → (o : Office) × StandsFirst db o × Stands new (widen o)
stood_first db tables are new book rows p st =
    let was : StandsFirst db (narrow p) = record {
      tables = as_first db tables;
      first = are;
      gives = gives_narrowed db tables are p (subst (λ r. Gives r p) rows st.gives);
      sound = narrow_sound db tables are p st.sound;
    } in
    (narrow p, was, widened_stands db tables (narrow p) was new book rows)
