-- Tables as lists in the order of their numbers: what an INSERT, an UPDATE and a DELETE make of the list.
use Rattle.book_tables_rows.proofs.Common.{◌≡◌, ℤ, Bool, true, false, not, ◌||◌, List, [], ◌∷◌, ◌++◌, filter, map, Option, Some, None, refl, sym, ap, subst, ◌∙◌, true≢false, IsTrue, Less, Equal, Greater, is_eq, arith, AllByRecursion, list_any, option_to_list, IsPermutation, ints, Value, Null, Int, Real, Text, Blob, Row, value_cmp, next_rowid, id_in, rowid, without_rowid, is_int, IsShaped, ids_of, without_all, Has, value_cmp-Int, update_where, delete_where}
use Rattle.std.proofs.Common.{◌<ℤ◌, fold, int_cmp, int_eq}
use Rattle.std.specs.Ordering.{match_ordering}
use Rattle.std.proofs.lemmas.List.Sorted.{list_any-IsPermutation, IsPermutation-sym}
use Rattle.sqlite.specs.Tree.{has_rowid, put_row}
use Rattle.sqlite_trees.specs.declared.store.Shape.TheVariants.{Table as TableShape}
use Rattle.sqlite_trees.proofs.ListLemmas.{all_weaker, all_both, all-filter, filter_same, filter_all}
use Rattle.sqlite_rules.specs.Edit.{put_all}
use Rattle.sqlite_keyed.specs.Keyed.{IsKeyedBy, insert_by}
use Rattle.sqlite_keyed.specs.Lists.{without_key}
use Rattle.sqlite_keyed.proofs.KeyedLemmas.{lt_from_Less, Less-from_lt, above_all}
use Rattle.sqlite_keyed.proofs.WriteLemmas.{puts_update, removes_delete}

pub int_of : (v : Value) → IsTrue (is_int v) → (n : ℤ) × (v ≡ Int n)
int_of Null h = absurd (true≢false (sym h))
int_of (Int n) h = (n, refl)
int_of (Real x) h = absurd (true≢false (sym h))
int_of (Text t) h = absurd (true≢false (sym h))
int_of (Blob b) h = absurd (true≢false (sym h))

-- the number of a row
abbrev pub key : Row → ℤ
key row = id_in (rowid row)

abbrev pub Ints : List Row → Type 0
Ints = AllByRecursion (λ r. IsTrue (is_int (rowid r)))

pub key_is : (r : Row) → IsTrue (is_int (rowid r)) → rowid r ≡ Int (key r)
key_is r h = let k = int_of (rowid r) h in k.1 ∙ ap Int (sym (ap id_in k.1))

less : (a b : Row) → IsTrue (is_int (rowid a)) → IsTrue (is_int (rowid b)) → value_cmp (rowid a) (rowid b) ≡ Less → key a <ℤ key b
less a b p q h = lt_from_Less (key a) (key b) (sym (value_cmp-Int (key a) (key b)) ∙ sym (ap (λ v. value_cmp v (Int (key b))) (key_is a p)) ∙ sym (ap (value_cmp (rowid a)) (key_is b q)) ∙ h)

pub keyed : (rows : List Row) → IsShaped TableShape rows → IsKeyedBy key rows
keyed [] s = tt
keyed (x ∷ xs) s = (all_both (λ y. value_cmp (rowid x) (rowid y) ≡ Less) (λ y. IsTrue (is_int (rowid y))) (λ y. key x <ℤ key y) (λ y l i. less x y s.1.0 i l) xs s.0.0 s.1.1, keyed xs (s.0.1, s.1.1))

pub has_key_is : (r : Row) (id : ℤ) → IsTrue (is_int (rowid r)) → has_rowid id r ≡ int_eq (key r) id
has_key_is r id h = ap (λ v. is_eq (value_cmp v (Int id))) (key_is r h) ∙ ap is_eq (value_cmp-Int (key r) id)

pub put_is : (rows : List Row) (new : Row) → Ints rows → IsTrue (is_int (rowid new)) → put_row new rows ≡ insert_by key rows new
put_is [] new ints_ h = refl
put_is (x ∷ xs) new all h =
    let cmp : value_cmp (rowid x) (rowid new) ≡ int_cmp (key x) (key new) =
    ap (λ v. value_cmp v (rowid new)) (key_is x all.0) ∙ ap (value_cmp (Int (key x))) (key_is new h) ∙ value_cmp-Int (key x) (key new) in
    ap (λ o. match_ordering o (x ∷ put_row new xs) (new ∷ xs) (new ∷ x ∷ xs)) cmp
    ∙ ap (λ rest. match_ordering (int_cmp (key x) (key new)) (x ∷ rest) (new ∷ xs) (new ∷ x ∷ xs)) (put_is xs new all.1 h)

pub without_is : (rows : List Row) (id : ℤ) → Ints rows → without_rowid id rows ≡ without_key key rows id
without_is rows id all = filter_same (λ r. not (has_rowid id r)) (λ r. not (int_eq (key r) id)) rows (all_weaker (λ r. IsTrue (is_int (rowid r))) _ (λ r h. ap not (has_key_is r id h)) rows all)

-- ---- INSERT

appended_past : (rows : List Row) (new : Row) → AllByRecursion (λ r. key r <ℤ key new) rows → insert_by key rows new ≡ rows ++ new ∷ []
appended_past [] new above = refl
appended_past (x ∷ xs) new above =
    ap (λ o. match_ordering o (x ∷ insert_by key xs new) (new ∷ xs) (new ∷ x ∷ xs)) (Less-from_lt (key x) (key new) above.0) ∙ ap (λ rest. x ∷ rest) (appended_past xs new above.1)

pub next_is : (rows : List Row) → IsKeyedBy key rows → AllByRecursion (λ r. key r <ℤ next_rowid rows) rows
next_is [] up = tt
next_is (x ∷ xs) up = above_all key xs x up

-- a row with the next number is added at the end
pub put_next : (rows : List Row) (new : Row) → IsShaped TableShape rows → rowid new ≡ Int (next_rowid rows) → put_row new rows ≡ rows ++ new ∷ []
put_next rows new shaped is =
    let int : IsTrue (is_int (rowid new)) = ap is_int is in
    put_is rows new shaped.1 int ∙ appended_past rows new (subst (λ k. AllByRecursion (λ r. key r <ℤ k) rows) (sym (ap id_in is)) (next_is rows (keyed rows shaped)))

-- ---- UPDATE of one row

inserts_over : (rows : List Row) (new : Row) → IsKeyedBy key rows → insert_by key (without_key key rows (key new)) new ≡ insert_by key rows new
inserts_over [] new up = refl
inserts_over (x ∷ xs) new up = go (int_cmp (key x) (key new)) refl (inserts_over xs new up.1)
  where
    first : (ys : List Row) → AllByRecursion (λ y. key new <ℤ key y) ys → insert_by key ys new ≡ new ∷ ys
    first [] h = refl
    first (y ∷ ys) h = let k = h.0 in let after : int_cmp (key y) (key new) ≡ Greater = grind (arith, ints) in rw after refl

    kept : (ys : List Row) → AllByRecursion (λ y. key new <ℤ key y) ys → without_key key ys (key new) ≡ ys
    kept ys h = filter_all (λ y. not (int_eq (key y) (key new))) ys (all_weaker (λ y. key new <ℤ key y) _ (λ y k. grind (arith, ints)) ys h)

    go : (o : Rattle.std.proofs.Common.Ordering) → int_cmp (key x) (key new) ≡ o → insert_by key (without_key key xs (key new)) new ≡ insert_by key xs new
        → insert_by key (without_key key (x ∷ xs) (key new)) new ≡ match_ordering o (x ∷ insert_by key xs new) (new ∷ xs) (new ∷ x ∷ xs)
    go Less e more = let apart : int_eq (key x) (key new) ≡ false = ap is_eq e in rw apart (rw e (ap (λ l. x ∷ l) more))
    go Equal e more =
        let same : int_eq (key x) (key new) ≡ true = ap is_eq e in
        let is : key x ≡ key new = grind (arith, ints) in
        let above : AllByRecursion (λ y. key new <ℤ key y) xs = rw is at up.0 in
        rw same (ap (λ ys. insert_by key ys new) (kept xs above) ∙ first xs above)
    go Greater e more =
        let apart : int_eq (key x) (key new) ≡ false = ap is_eq e in
        rw apart (rw e (ap (λ l. new ∷ x ∷ l) (kept xs (all_weaker (λ y. key x <ℤ key y) _ (λ y k. grind (arith, ints)) xs up.0))))

-- the one row that passes is changed, and keeps its number
pub updates_one : (p : Row → Bool) (f : Row → Row) → ((r : Row) → rowid (f r) ≡ rowid r) → (rows : List Row) → IsShaped TableShape rows
    → (found : Option Row) → filter p rows ≡ option_to_list found → ((r : Row) → found ≡ Some r → Has rows r)
    → put_all (without_all rows (ids_of (option_to_list found))) (map f (option_to_list found)) ≡ update_where p f rows
updates_one p f keeps rows shaped None picked there =
    sym (ap (fold (insert_by key) rows) (ap (map f) picked)) ∙ puts_update key p f (λ r. ap id_in (keeps r)) rows (keyed rows shaped)
updates_one p f keeps rows shaped (Some r) picked there =
    let int : IsTrue (is_int (rowid r)) = Rattle.sqlite_rules.proofs.ListLemmas.all_has _ rows r shaped.1 (there r refl) in
    let int_f : IsTrue (is_int (rowid (f r))) = ap is_int (keeps r) ∙ int in
    let rest : Ints (without_rowid (key r) rows) = all-filter _ (λ y. not (has_rowid (key r) y)) rows shaped.1 in
    put_is (without_rowid (key r) rows) (f r) rest int_f ∙ ap (λ ys. insert_by key ys (f r)) (without_is rows (key r) shaped.1)
    ∙ ap (λ k. insert_by key (without_key key rows k) (f r)) (sym (ap id_in (keeps r))) ∙ inserts_over rows (f r) (keyed rows shaped)
    ∙ sym (ap (fold (insert_by key) rows) (ap (map f) picked)) ∙ puts_update key p f (λ x. ap id_in (keeps x)) rows (keyed rows shaped)

-- ---- DELETE

pub without_two : (p q : Row → Bool) (rows : List Row) → filter (λ r. not (q r)) (filter (λ r. not (p r)) rows) ≡ filter (λ r. not (p r || q r)) rows
without_two p q [] = refl
without_two p q (x ∷ xs) = go (p x) (q x) refl refl (without_two p q xs)
  where
    go : (a b : Bool) → p x ≡ a → q x ≡ b → filter (λ r. not (q r)) (filter (λ r. not (p r)) xs) ≡ filter (λ r. not (p r || q r)) xs
        → filter (λ r. not (q r)) (filter (λ r. not (p r)) (x ∷ xs)) ≡ filter (λ r. not (p r || q r)) (x ∷ xs)
    go true b e h more = simp e more
    go false true e h more = simp (e, h) more
    go false false e h more = simp (e, h) (ap (λ l. x ∷ l) more)

pub all_kept : (rows : List Row) → filter (λ r. not false) rows ≡ rows
all_kept [] = refl
all_kept (x ∷ xs) = ap (λ l. x ∷ l) (all_kept xs)

without_each : (ids : List ℤ) (rows : List Row) → without_all rows ids ≡ filter (λ r. not (list_any (λ id. has_rowid id r) ids)) rows
without_each [] rows = sym (all_kept rows)
without_each (id ∷ ids) rows = without_each ids (without_rowid id rows) ∙ without_two (has_rowid id) (λ r. list_any (λ i. has_rowid i r) ids) rows

without_keys : (ids : List ℤ) (rows : List Row) → Ints rows → without_all rows ids ≡ fold (without_key key) rows ids
without_keys [] rows all = refl
without_keys (id ∷ ids) rows all =
    without_keys ids (without_rowid id rows) (all-filter _ (λ y. not (has_rowid id y)) rows all) ∙ ap (λ ys. fold (without_key key) ys ids) (without_is rows id all)

-- the rows that pass are taken out, in whatever order they were found
pub deletes_each : (p : Row → Bool) (rows : List Row) (ids : List ℤ) → IsShaped TableShape rows → IsPermutation (map key (filter p rows)) ids
    → without_all rows ids ≡ delete_where p rows
deletes_each p rows ids shaped same =
    without_each ids rows
    ∙ ap (λ (test : Row → Bool). filter (λ r. not (test r)) rows) (λ i r. list_any-IsPermutation (λ id. has_rowid id r) _ _ (IsPermutation-sym _ _ same) i)
    ∙ sym (without_each (map key (filter p rows)) rows)
    ∙ without_keys (map key (filter p rows)) rows shaped.1
    ∙ removes_delete key p rows (keyed rows shaped)
