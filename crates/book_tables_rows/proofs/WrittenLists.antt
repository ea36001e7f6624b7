-- A list that was written is read as it was given, and no other list changes.
use Rattle.book_tables_rows.proofs.Common.{◌≡◌, ℕ, ◌+◌, ℤ, pos, Bool, true, false, not, cond, List, [], ◌∷◌, ◌++◌, map, filter, refl, sym, ap, ◌∙◌, Less, arith, ints, Int, Binary, next_rowid, Row, value_cmp, equal, delete_where, sort_by, value_cmp-Int, Rows, Said, flag, is_entry, by_place}
use Rattle.std.proofs.lemmas.Cmp.{tied_itself}
use Rattle.std.proofs.lemmas.List.{append_assoc, append-nil}
use Rattle.std.proofs.lemmas.List.Elements.{filter-append}
use Rattle.sqlite_keyed.specs.Lists.{insert_sorted}
use Rattle.sqlite_keyed.proofs.KeyedLemmas.{Less-from_lt}
use Rattle.sqlite_value.proofs.OrderLemmas.{value_cmp_total}
use Rattle.book_tables_rows.specs.Lists.{entry_columns, said_columns, WrittenListsAreRead, OtherListsStay}
use Rattle.book_tables_rows.specs.Writes.{entry_row, insert_listed, insert_list, delete_own, write_list}
use Rattle.book_tables_rows.proofs.Entries.{equal_tied}

pub itself : (n : ℤ) → equal Binary (Int n) (Int n) ≡ true
itself n = equal_tied (Int n) (Int n) refl refl (tied_itself value_cmp_total (Int n))

flag_itself : (b : Bool) → equal Binary (flag b) (flag b) ≡ true
flag_itself true = itself (pos 1)
flag_itself false = itself (pos 0)

-- ---- the rows that are added

module _ (id : ℤ) (protected : Bool) where
  abbrev pub row_at : ℕ → Said → Rows → Row
  row_at place e rows = entry_row (next_rowid rows.entries) (Int id) protected place e.form e.principal e.invert e.deny e.mask

  abbrev pub added : ℕ → List Said → Rows → List Row
  added place [] rows = []
  added place (e ∷ more) rows = row_at place e rows ∷ added (place + 1) more (insert_listed (Int id) protected place e rows)

  pub are_added : (place : ℕ) (list : List Said) (rows : Rows) → (insert_list (Int id) protected place list rows).entries ≡ rows.entries ++ added place list rows
  are_added place [] rows = sym (append-nil rows.entries)
  are_added place (e ∷ more) rows =
      are_added (place + 1) more (insert_listed (Int id) protected place e rows) ∙ append_assoc rows.entries (row_at place e rows ∷ []) (added (place + 1) more (insert_listed (Int id) protected place e rows))

  is_its : (place : ℕ) (e : Said) (rows : Rows) → is_entry (Int id) protected (row_at place e rows) ≡ true
  is_its place e rows = rw (itself id, flag_itself protected) refl

  pub all_its : (place : ℕ) (list : List Said) (rows : Rows) → filter (is_entry (Int id) protected) (added place list rows) ≡ added place list rows
  all_its place [] rows = refl
  all_its place (e ∷ more) rows = rw (is_its place e rows) (ap (λ rest. row_at place e rows ∷ rest) (all_its (place + 1) more (insert_listed (Int id) protected place e rows)))

  pub none_of : (q : Row → Bool) → ((place : ℕ) (e : Said) (rows : Rows) → q (row_at place e rows) ≡ false) → (place : ℕ) (list : List Said) (rows : Rows) → filter q (added place list rows) ≡ []
  none_of q apart place [] rows = refl
  none_of q apart place (e ∷ more) rows = rw (apart place e rows) (none_of q apart (place + 1) more (insert_listed (Int id) protected place e rows))

  -- ---- they rise by their places

  rises : (place : ℕ) → value_cmp (Int (pos place)) (Int (pos (place + 1))) ≡ Less
  rises place = value_cmp-Int (pos place) (pos (place + 1)) ∙ Less-from_lt (pos place) (pos (place + 1)) (omega (arith, ints))

  put_first : (place : ℕ) (e : Said) (rows : Rows) (more : List Said) (later : Rows) → insert_sorted by_place (row_at place e rows) (added (place + 1) more later) ≡ row_at place e rows ∷ added (place + 1) more later
  put_first place e rows [] later = refl
  put_first place e rows (f ∷ more) later = rw (rises place) refl

  are_sorted : (place : ℕ) (list : List Said) (rows : Rows) → sort_by by_place (added place list rows) ≡ added place list rows
  are_sorted place [] rows = refl
  are_sorted place (e ∷ more) rows =
      let later = insert_listed (Int id) protected place e rows in
      ap (insert_sorted by_place (row_at place e rows)) (are_sorted (place + 1) more later) ∙ put_first place e rows more later

  are_shown : (place : ℕ) (list : List Said) (rows : Rows) → map entry_columns (added place list rows) ≡ map said_columns list
  are_shown place [] rows = refl
  are_shown place (e ∷ more) rows = ap (λ rest. said_columns e ∷ rest) (are_shown (place + 1) more (insert_listed (Int id) protected place e rows))

  -- rows of which these alone are picked show the list
  pub shows_list : (list : List Said) (rows : Rows) (picked : List Row) → picked ≡ added 0 list rows → map entry_columns (sort_by by_place picked) ≡ map said_columns list
  shows_list list rows picked is = ap (λ xs. map entry_columns (sort_by by_place xs)) is ∙ ap (map entry_columns) (are_sorted 0 list rows) ∙ are_shown 0 list rows

-- ---- those that were there

pub none_left : (p q : Row → Bool) → ((r : Row) → p r ≡ false → q r ≡ false) → (rows : List Row) → filter q (delete_where p rows) ≡ []
none_left p q within [] = refl
none_left p q within (r ∷ rows) = go (p r) refl (none_left p q within rows)
  where
    go : (b : Bool) → p r ≡ b → filter q (delete_where p rows) ≡ [] → filter q (cond (not b) (r ∷ delete_where p rows) (delete_where p rows)) ≡ []
    go true e more = more
    go false e more = rw (within r e) more

pub all_left : (p q : Row → Bool) → ((r : Row) → p r ≡ true → q r ≡ false) → (rows : List Row) → filter q (delete_where p rows) ≡ filter q rows
all_left p q apart [] = refl
all_left p q apart (r ∷ rows) = go (p r) refl (all_left p q apart rows)
  where
    go : (b : Bool) → p r ≡ b → filter q (delete_where p rows) ≡ filter q rows → filter q (cond (not b) (r ∷ delete_where p rows) (delete_where p rows)) ≡ cond (q r) (r ∷ filter q rows) (filter q rows)
    go true e more = rw (apart r e) more
    go false e more = ap (λ rest. cond (q r) (r ∷ rest) rest) more

-- ---- the laws

pub written_are_read : WrittenListsAreRead
written_are_read rows id list =
    let p = is_entry (Int id) false in
    let left = delete_own (Int id) rows in
    let picked : filter p (write_list (Int id) list rows).entries ≡ added id false 0 list left =
    ap (filter p) (are_added id false 0 list left) ∙ filter-append p left.entries (added id false 0 list left) ∙ ap (λ xs. xs ++ filter p (added id false 0 list left)) (none_left p p (λ r e. e) rows.entries) ∙ all_its id false 0 list left in
    shows_list id false list left (filter p (write_list (Int id) list rows).entries) picked

pub others_stay : OtherListsStay
others_stay rows id list other protected apart =
    let p = is_entry (Int id) false in
    let q = is_entry other protected in
    let left = delete_own (Int id) rows in
    let picked : filter q (write_list (Int id) list rows).entries ≡ filter q rows.entries =
    ap (filter q) (are_added id false 0 list left) ∙ filter-append q left.entries (added id false 0 list left)
    ∙ ap (λ xs. filter q left.entries ++ xs) (none_of id false q (λ place e rows. apart (row_at id false place e rows) (is_its id false place e rows)) 0 list left) ∙ append-nil (filter q left.entries) ∙ all_left p q apart rows.entries in
    ap (sort_by by_place) picked
