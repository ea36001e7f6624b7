-- What a DELETE of nodes leaves, where no row refers to them: no cascade has anything to do.
use Rattle.book_tables_rows.proofs.Common.{and-true, ◌≡◌, ◌⊎◌, inl, inr, ℕ, ℤ, Bool, true, false, not, ◌&&◌, cond, List, [], ◌∷◌, ◌++◌, map, filter, flat_map, find, unwrap_or, Option, Some, None, Ok, refl, sym, ap, subst, ◌∙◌, true≢false, if◌then◌else◌, arith, AllByRecursion, list_any, IsPermutation, Int, Row, edit_of, Applies, Given, Table, Trees, rowid, works, Has, all_has, Enforced, agree, IsShaped, delete_where, plain, ace_node_place, gone_book_place, book_schema, node_table, ace_table, member_table, gone_table, rows_of, has, AreFree, first_key-plain, ints}
use mathlib.Core.Bool.{and-false}
use Rattle.std.proofs.Common.{int_eq}
use Rattle.std.specs.List.{filter_map}
use Rattle.std.proofs.lemmas.List.Sorted.{All-permutation}
use Rattle.std.proofs.lemmas.List.Elements.{All-from_recursion, recursion_from_All}
use Rattle.sqlite.specs.Tree.{has_rowid}
use Rattle.sqlite_rules.specs.Action.{Work, work_for, pairs, is_child_of, loses, Writes as EditWrites}
use Rattle.sqlite_rules.specs.Edit.{row_at}
use Rattle.sqlite_schema.specs.declared.schema.Reference.{Reference}
use Rattle.sqlite_schema.specs.Names.{same_name}
use Rattle.sqlite_tied.specs.Compute.{everything}
use Rattle.sqlite_trees.specs.declared.store.Shape.TheVariants.{Table as TableShape}
use Rattle.sqlite_keyed.proofs.KeyedLemmas.{same_int}
use Rattle.book_tables_rows.specs.Columns.{node_parent_place}
use Rattle.book_tables_rows.specs.Schema.{ace2_table, reach_table, to_node, to_path, ace2_tree}
use Rattle.book_tables_rows.proofs.Cascades.{IsIdle, one_step_idle}
use Rattle.book_tables_rows.proofs.Shapes.{key, key_is, has_key_is, deletes_each}

-- ---- the works that a DELETE sets off, one by one

pub all_append : {X : Type 0} (P : X → Type 0) (xs ys : List X) → AllByRecursion P xs → AllByRecursion P ys → AllByRecursion P (xs ++ ys)
all_append P [] ys h k = k
all_append P (x ∷ xs) ys h k = (h.0, all_append P xs ys h.1 k)

module _ (P : Work → Type 0) (olds : List Row) where
  abbrev Each : Table → Reference → Type 0
  Each child ref = (w : Work) → work_for book_schema Enforced 0 0 olds [] child ref ≡ Some w → P w

  of_refs : (child : Table) (refs : List Reference) → AllByRecursion (Each child) refs → AllByRecursion P (filter_map (work_for book_schema Enforced 0 0 olds [] child) refs)
  of_refs child [] each = tt
  of_refs child (ref ∷ refs) each = go (work_for book_schema Enforced 0 0 olds [] child ref) refl (of_refs child refs each.1)
    where
      go : (o : Option Work) → work_for book_schema Enforced 0 0 olds [] child ref ≡ o → AllByRecursion P (filter_map (work_for book_schema Enforced 0 0 olds [] child) refs)
          → AllByRecursion P (filter_map (work_for book_schema Enforced 0 0 olds [] child) (ref ∷ refs))
      go None e more = rw e more
      go (Some w) e more = rw e (each.0 w e, more)

  of_tables : (tables : List Table) → AllByRecursion (λ child. AllByRecursion (Each child) child.references) tables
      → AllByRecursion P (flat_map (λ child. filter_map (work_for book_schema Enforced 0 0 olds [] child) child.references) tables)
  of_tables [] each = tt
  of_tables (t ∷ ts) each =
      all_append P (filter_map (work_for book_schema Enforced 0 0 olds [] t) t.references) (flat_map (λ child. filter_map (work_for book_schema Enforced 0 0 olds [] child) child.references) ts)
      (of_refs t t.references each.0) (of_tables ts each.1)

-- the work for a table whose rows refer to numbers of nodes
abbrev work_on : List Row → Table → ℕ → Work
work_on olds child place = record { depth = 0; child = child; ref = to_node place; places = 0 ∷ []; order = plain; deed = Rattle.sqlite_rules.specs.declared.action.Deed.TheVariants.Delete; moves = pairs olds [] }

chosen : (b : Bool) (x w : Work) → (if b then Some x else None) ≡ Some w → x ≡ w
chosen true x w e = cc
chosen false x w e = absurd cc

by_number : (olds : List Row) (place : ℕ) (child : Table) (w : Work) → work_for book_schema Enforced 0 0 olds [] child (to_node place) ≡ Some w → work_on olds child place ≡ w
unfolding same_name everything
by_number olds place child w e = chosen (list_any (loses plain (0 ∷ [])) (pairs olds [])) (work_on olds child place) w e

by_path : (olds : List Row) (place : ℕ) (child : Table) (w : Work) → work_for book_schema Enforced 0 0 olds [] child (to_path place) ≡ Some w → ⊥
by_path olds place child w e = cc

-- ---- each of them finds nothing to do

agrees : (place : ℕ) (r old : Row) → agree plain (place ∷ []) r (0 ∷ []) old ≡ has place (rowid old) r
agrees place r old = rw first_key-plain (and-true (has place (rowid old) r))

no_child : (w : Work) (child : Table) (place : ℕ) (all olds : List Row) (r : Row) → w ≡ work_on all child place → ((old : Row) → Has olds old → has place (rowid old) r ≡ false)
    → list_any (is_child_of (work_on all child place) r) (pairs olds []) ≡ false
no_child w child place all [] r is apart = refl
no_child w child place all (old ∷ olds) r is apart =
    let here : is_child_of (work_on all child place) r (old, []) ≡ false =
    ap (λ t. loses plain (0 ∷ []) (old, []) && t) (agrees place r old ∙ apart old (inl refl)) ∙ and-false (loses plain (0 ∷ []) (old, [])) in
    rw here (no_child w child place all olds r is (λ o h. apart o (inr h)))

idle_work : (mid : Trees) (olds : List Row) (child : Table) (place : ℕ) → ((r : Row) → Has (mid child.tree) r → (old : Row) → Has olds old → has place (rowid old) r ≡ false) → IsIdle mid (work_on olds child place)
idle_work mid olds child place apart r there = no_child (work_on olds child place) child place olds olds r refl (apart r there)

pub works_idle : (mid : Trees) (olds : List Row)
    → ((r : Row) → Has (mid 0) r → (old : Row) → Has olds old → has node_parent_place (rowid old) r ≡ false)
    → ((r : Row) → Has (mid ace2_tree) r → (old : Row) → Has olds old → has ace_node_place (rowid old) r ≡ false)
    → ((r : Row) → Has (mid 6) r → (old : Row) → Has olds old → has gone_book_place (rowid old) r ≡ false)
    → mid 2 ≡ []
    → AllByRecursion (IsIdle mid) (works book_schema Enforced 0 0 olds [])
works_idle mid olds nodes entries gone former =
    let on_nodes = λ (w : Work) (e : work_for book_schema Enforced 0 0 olds [] node_table (to_node 3) ≡ Some w). subst (IsIdle mid) (by_number olds 3 node_table w e) (idle_work mid olds node_table 3 nodes) in
    let on_entries = λ (w : Work) (e : work_for book_schema Enforced 0 0 olds [] ace2_table (to_node 1) ≡ Some w). subst (IsIdle mid) (by_number olds 1 ace2_table w e) (idle_work mid olds ace2_table 1 entries) in
    let on_former = λ (w : Work) (e : work_for book_schema Enforced 0 0 olds [] ace_table (to_node 1) ≡ Some w). subst (IsIdle mid) (by_number olds 1 ace_table w e) (idle_work mid olds ace_table 1 (λ r there. absurd (subst (λ rows. Has rows r) former there))) in
    let on_gone = λ (w : Work) (e : work_for book_schema Enforced 0 0 olds [] gone_table (to_node 1) ≡ Some w). subst (IsIdle mid) (by_number olds 1 gone_table w e) (idle_work mid olds gone_table 1 gone) in
    of_tables (IsIdle mid) olds book_schema.tables (
      (on_nodes, ((λ w e. absurd (by_path olds 5 node_table w e)), tt)),
      (
        (on_former, ((λ w e. absurd (by_path olds 5 ace_table w e)), tt)),
        (
          ((λ w e. absurd (by_path olds 1 member_table w e)), ((λ w e. absurd (by_path olds 2 member_table w e)), tt)),
          ((on_gone, tt), (tt, ((on_entries, ((λ w e. absurd (by_path olds 5 ace2_table w e)), tt)), (((λ w e. absurd (by_path olds 1 reach_table w e)), ((λ w e. absurd (by_path olds 2 reach_table w e)), tt)), tt)))),
        ),
      ),
    )

-- ---- the rows that were taken out

pub int_itself : (n : ℤ) → int_eq n n ≡ true
int_itself n = grind (arith, ints)

find_passing : (q : Row → Bool) (rows : List Row) (n : Row) → Has rows n → q n ≡ true → (r : Row) × (find q rows ≡ Some r) × Has rows r × (q r ≡ true)
find_passing q [] n there passes = absurd there
find_passing q (x ∷ rows) n there passes = go (q x) refl there (find_passing q rows n)
  where
    go : (b : Bool) → q x ≡ b → (n ≡ x) ⊎ Has rows n → (Has rows n → q n ≡ true → (r : Row) × (find q rows ≡ Some r) × Has rows r × (q r ≡ true)) → (r : Row) × (find q (x ∷ rows) ≡ Some r) × Has (x ∷ rows) r × (q r ≡ true)
    go true e h more = (x, rw e refl, inl refl, e)
    go false e (inl is) more = absurd (true≢false (sym passes ∙ ap q is ∙ e))
    go false e (inr h) more = let m = more h passes in (m.0, rw e m.1, inr m.2, m.3)

-- a number is that of a row that passes
IsOf : (p : Row → Bool) → List Row → ℤ → Type 0
IsOf p rows id = (n : Row) × Has rows n × (p n ≡ true) × (key n ≡ id)

each_picked : (p : Row → Bool) (all rows : List Row) → ((r : Row) → Has rows r → Has all r) → AllByRecursion (IsOf p all) (map key (filter p rows))
unfolding IsOf
each_picked p all [] within = tt
each_picked p all (r ∷ rows) within = go (p r) refl (each_picked p all rows (λ x h. within x (inr h)))
  where
    go : (b : Bool) → p r ≡ b → AllByRecursion (IsOf p all) (map key (filter p rows)) → AllByRecursion (IsOf p all) (map key (cond b (r ∷ filter p rows) (filter p rows)))
    go true e more = ((r, within r (inl refl), e, refl), more)
    go false e more = more

has_mapped : (f : ℤ → Row) (ids : List ℤ) (old : Row) → Has (map f ids) old → (id : ℤ) × Has ids id × (old ≡ f id)
has_mapped f [] old h = absurd h
has_mapped f (id ∷ ids) old (inl is) = (id, inl refl, is)
has_mapped f (id ∷ ids) old (inr h) = let m = has_mapped f ids old h in (m.0, inr m.1, m.2)

-- each row that is taken out has the number of one that passes
pub taken_row : (p : Row → Bool) (rows : List Row) (ids : List ℤ) → IsShaped TableShape rows → IsPermutation (map key (filter p rows)) ids
    → (old : Row) → Has (map (row_at rows) ids) old → (n : Row) × Has rows n × (p n ≡ true) × (rowid old ≡ rowid n)
unfolding IsOf
taken_row p rows ids shaped same old there =
    let it = has_mapped (row_at rows) ids old there in
    let all : AllByRecursion (IsOf p rows) ids = recursion_from_All (IsOf p rows) ids (All-permutation (IsOf p rows) (map key (filter p rows)) ids same (All-from_recursion (IsOf p rows) (map key (filter p rows)) (each_picked p rows rows (λ r h. h)))) in
    let of : IsOf p rows it.0 = all_has (IsOf p rows) ids it.0 all it.1 in
    let n_int = all_has _ rows of.0 shaped.1 of.1 in
    let found = find_passing (has_rowid it.0) rows of.0 of.1 (has_key_is of.0 it.0 n_int ∙ ap (λ k. int_eq k it.0) of.3 ∙ int_itself it.0) in
    let r_int = all_has _ rows found.0 shaped.1 found.2 in
    let key_r : key found.0 ≡ it.0 = same_int (key found.0) it.0 (sym (has_key_is found.0 it.0 r_int) ∙ found.3) in
    (of.0, of.1, of.2, ap rowid (it.2 ∙ ap (λ o. unwrap_or o []) found.1) ∙ key_is found.0 r_int ∙ ap Int (key_r ∙ sym of.3) ∙ sym (key_is of.0 n_int))

pub in_left : (p : Row → Bool) (rows : List Row) (r : Row) → Has (delete_where p rows) r → Has rows r × (p r ≡ false)
in_left p [] r h = absurd h
in_left p (x ∷ rows) r h = go (p x) refl h (in_left p rows r)
  where
    go : (b : Bool) → p x ≡ b → Has (cond (not b) (x ∷ delete_where p rows) (delete_where p rows)) r → (Has (delete_where p rows) r → Has rows r × (p r ≡ false)) → Has (x ∷ rows) r × (p r ≡ false)
    go true e h more = let m = more h in (inr m.0, m.1)
    go false e (inl is) more = (inl is, ap p is ∙ e)
    go false e (inr h) more = let m = more h in (inr m.0, m.1)

-- so where the rows are free, a DELETE of nodes is its one step
pub quiet_nodes : (db : Trees) (p : Row → Bool) → AreFree p (rows_of db) → IsShaped TableShape (db 0) → db 2 ≡ [] → (ids : List ℤ) → IsPermutation (map key (filter p (db 0))) ids → (next : Trees)
    → EditWrites book_schema Enforced db (edit_of db node_table ids Given 0 []) (Ok next) → Applies book_schema Enforced db (edit_of db node_table ids Given 0 []) next
quiet_nodes db p free shaped former ids same next w =
    one_step_idle book_schema Enforced db next (edit_of db node_table ids Given 0 []) (λ mid applied.
    works_idle mid (map (row_at (db 0)) ids)
    (λ r there old in_olds.
    let n = taken_row p (db 0) ids shaped same old in_olds in
    let left = in_left p (db 0) r (subst (λ rows. Has rows r) (applied.rows ∙ deletes_each p (db 0) ids shaped same) there) in
    ap (λ v. has node_parent_place v r) n.3 ∙ free.nodes n.0 r n.1 n.2 left.0 left.1)
    (λ r there old in_olds.
    let n = taken_row p (db 0) ids shaped same old in_olds in
    ap (λ v. has ace_node_place v r) n.3 ∙ free.entries n.0 r n.1 n.2 (subst (λ rows. Has rows r) (applied.tables.1.1.1.1.1.0 (λ e. omega (arith, e))) there))
    (λ r there old in_olds.
    let n = taken_row p (db 0) ids shaped same old in_olds in
    ap (λ v. has gone_book_place v r) n.3 ∙ free.gone n.0 r n.1 n.2 (subst (λ rows. Has rows r) (applied.tables.1.1.1.0 (λ e. omega (arith, e))) there))
    (applied.tables.1.0 (λ e. omega (arith, e)) ∙ former)) w
