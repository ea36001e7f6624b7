-- Nodes in a span of numbers in which no entry stands have no entries.
use Rattle.book_tables.proofs.Common.{◌≡◌, ℕ, ℤ, ◌+◌, ◌<◌, Bool, true, false, not, ◌&&◌, ◌||◌, cond, List, [], ◌∷◌, map, filter, length, take, get_or, Option, Some, codes, refl, sym, ap, subst, ◌∙◌, arith, ints, IsTrue, true≢false, false_from_ne_true, Less, Equal, Greater, AllByRecursion, list_any, all_has, all_from, all_weaker, Int, id_in, Database, State, Row, Null, value_cmp-Int, sort_by, ace_node_place, ace_protected_place, flag, is_entry, by_place, rows_of, has, IsBook, Rows, Looks, list_in, entry_of, child_shown, card_shown, child_among, card_among, Changed, Listed}
use Rattle.std.proofs.Common.{is_ge, is_le, pos, suc, ne_eqb}
use Rattle.std.specs.Prelude.{◌≤ℤ◌, int_lt, ◌==◌}
use Rattle.std.proofs.lemmas.List.{length-map}
use Rattle.std.proofs.lemmas.List.Elements.{recursion_from_All, All-from_recursion, All-more}
use Rattle.std.proofs.lemmas.List.Sorted.{length_permutation}
use Rattle.sqlite.specs.Collation.TheVariants.{Binary}
use Rattle.sqlite.specs.Command.TheVariants.{Select}
use Rattle.sqlite.specs.Listing.{understood, reads_listing}
use Rattle.sqlite.specs.Ops.{binary, is_true, from_truth}
use Rattle.sqlite.specs.Program.{overlay}
use Rattle.sqlite.specs.Query.{limited}
use Rattle.sqlite.specs.State.{Shown}
use Rattle.sqlite.specs.Term.{Term, col, op2}
use Rattle.sqlite.proofs.Callers.{IsPlain, command_of, reads_as}
use Rattle.sqlite_keyed.proofs.ListLemmas.{filter_none}
use Rattle.sqlite_sql.specs.declared.ops.BinaryOp.TheVariants.{Compare}
use Rattle.sqlite_sql.specs.declared.ops.CompareOp.TheVariants.{Ge, Le}
use Rattle.sqlite_tied.specs.Compute.{everything}
use Rattle.book_tables_rows.specs.Columns.{ace_node}
use Rattle.book_tables_rows.specs.Lists as lists
use Rattle.book_tables_rows.specs.Lists.{AreFirst, changed_number_place}
use Rattle.book_tables_rows.specs.Schema.{ace2_tree, book_schema}
use Rattle.book_tables_rows.proofs.Common.{and-true}
use Rattle.book_tables_rows.proofs.Keeping.{shown_open}
use Rattle.book_tables_rows.proofs.Ordering.{answers_first, count_is, first_ordered}
use Rattle.book_tables_rows.proofs.Statements.{passes}
use Rattle.book_tables.specs.Children.{ShowsChildrenOf, listed_shown}
use Rattle.book_tables.specs.LastChanges.{ShowsCards, changed_shown}
use Rattle.book_tables.specs.Shares.{node_in}
use Rattle.book_tables.specs.Spans.{AreWithin, HaveNoEntries, ShowsNoneBetween, TellsNoEntries, is_between, list_between}
use Rattle.book_tables.proofs.ChildShares.{numbered}
use Rattle.book_tables.proofs.Looking.{same_ints}

-- ---- the meaning of the text

abbrev at_least : ℕ → ℕ → Term
at_least place parameter = op2 (Compare Ge Binary) (col 1 place) (col 0 parameter)

abbrev at_most : ℕ → ℕ → Term
at_most place parameter = op2 (Compare Le Binary) (col 1 place) (col 0 parameter)

abbrev terms : List Term
terms = at_least 1 0 ∷ at_most 1 1 ∷ []

list_between_is : command_of (understood book_schema list_between) ≡ Select (record { lets = []; body = first_ordered ace2_tree terms (col 1 1 ∷ []) 1 2 }) (codes "node" ∷ [])
unfolding understood everything
list_between_is = refl

pub list_between_plain : IsPlain (understood book_schema list_between)
unfolding understood everything
list_between_plain = (refl, refl)

list_between_unlisted : reads_listing book_schema list_between ≡ false
unfolding understood everything
list_between_unlisted = refl

-- ---- the first of some rows

some_is_none : (n : ℕ) → (suc n == 0) ≡ false
some_is_none n = ne_eqb (suc n) 0 (λ e. omega (arith, e))

none_any : (p : Row → Bool) (xs : List Row) → (length (filter p xs) == 0) ≡ not (list_any p xs)
none_any p [] = refl
none_any p (x ∷ xs) = elim (p x) as (λ b. (length (cond b (x ∷ filter p xs) (filter p xs)) == 0) ≡ not (b || list_any p xs)) [ true ↦ some_is_none (length (filter p xs)) | false ↦ none_any p xs ]

first_is_none : (xs : List Row) → (length (limited (Some 1) xs) == 0) ≡ (length xs == 0)
first_is_none [] = refl
first_is_none (x ∷ xs) = sym (some_is_none (length xs))

first_none : (f : Row → Row) (p : Row → Bool) (xs shown : List Row) → AreFirst (Some 1) 0 (map f (filter p xs)) shown → (length shown == 0) ≡ not (list_any p xs)
first_none f p xs shown are =
    ap (λ (l : List Row). length l == 0) are.first ∙ first_is_none are.ordered
    ∙ ap (λ n. n == 0) (length_permutation (map f (filter p xs)) are.ordered are.same ∙ length-map (filter p xs) f) ∙ none_any p xs

pub shows_between : (old new : State) (first last : ℤ) (rows : List Row) → Shown list_between (Int first ∷ Int last ∷ Int (pos 1) ∷ []) old new rows → ShowsNoneBetween old first last (length rows == 0)
shows_between old new first last rows h = (
  shown_open list_between _ old new rows h,
  λ book.
      let db = old.now.trees in
      let given : Row = Int first ∷ Int last ∷ Int (pos 1) ∷ [] in
      let tests : (r : Row) → passes given terms r ≡ is_between first last r = λ r. ap (λ b. is_true (binary (Compare Ge Binary) (ace_node r) (Int first)) && b) (and-true (is_true (binary (Compare Le Binary) (ace_node r) (Int last)))) in
      let read = (reads_as list_between given old new book_schema book.schema _ list_between_is list_between_plain list_between_unlisted rows h).answer Null in
      let are = answers_first ace2_tree terms (col 1 1 ∷ []) 1 0 2 (overlay db []) given (λ r. refl) (Some 1) (count_is (Some 1)) rows read in
      first_none (λ r. ace_node r ∷ []) (is_between first last) (db ace2_tree) rows
      (subst (λ l. AreFirst (Some 1) 0 l rows) (λ i. map (λ r. ace_node r ∷ []) (filter (λ r. tests r i) (db ace2_tree))) are),
)

-- ---- numbers in the span

at_least_is : (n m : ℤ) → m ≤ℤ n → is_true (binary (Compare Ge Binary) (Int n) (Int m)) ≡ true
unfolding binary
at_least_is n m h = rw (value_cmp-Int n m) (go (int_lt n m) (int_lt m n) refl refl)
  where
    go : (a b : Bool) → int_lt n m ≡ a → int_lt m n ≡ b → is_true (from_truth (Some (is_ge (cond a Less (cond b Greater Equal))))) ≡ true
    go true b p q = absurd (grind (arith, ints))
    go false true p q = refl
    go false false p q = refl

at_most_is : (n m : ℤ) → n ≤ℤ m → is_true (binary (Compare Le Binary) (Int n) (Int m)) ≡ true
unfolding binary
at_most_is n m h = rw (value_cmp-Int n m) (go (int_lt n m) (int_lt m n) refl refl)
  where
    go : (a b : Bool) → int_lt n m ≡ a → int_lt m n ≡ b → is_true (from_truth (Some (is_le (cond a Less (cond b Greater Equal))))) ≡ true
    go true b p q = refl
    go false true p q = absurd (grind (arith, ints))
    go false false p q = refl

none_passes : (p : Row → Bool) (xs : List Row) → list_any p xs ≡ false → AllByRecursion (λ x. p x ≡ false) xs
none_passes p [] none = tt
none_passes p (x ∷ xs) none = go (p x) refl none (none_passes p xs)
  where
    go : (b : Bool) → p x ≡ b → (b || list_any p xs) ≡ false → (list_any p xs ≡ false → AllByRecursion (λ y. p y ≡ false) xs) → AllByRecursion (λ y. p y ≡ false) (x ∷ xs)
    go true e h more = absurd (true≢false h)
    go false e h more = (e, more h)

is_none : (none any : Bool) → none ≡ not any → IsTrue none → any ≡ false
is_none none true e h = absurd (true≢false (sym h ∙ e))
is_none none false e h = refl

pub told_none : (s : State) (shown : List Row) (first last : ℤ) (none : Bool) → AreWithin first last shown → ShowsNoneBetween s first last none → TellsNoEntries s shown none
told_none s shown first last none within shows book is =
    let entries = (rows_of s.now.trees).entries in
    let out = none_passes (is_between first last) entries (is_none none (list_any (is_between first last) entries) (shows.1 book) is) in
    all_weaker (λ row. (first ≤ℤ node_in row) × (node_in row ≤ℤ last)) (λ row. AllByRecursion (λ entry. has ace_node_place (Int (node_in row)) entry ≡ false) entries) (λ row span.
    all_from _ entries (λ entry there. false_from_ne_true _ (λ its.
    let number = numbered s.now book entry there in
    let same : id_in (ace_node entry) ≡ node_in row = same_ints ace_node_place entry (id_in (ace_node entry)) (node_in row) number.node its in
    let value : ace_node entry ≡ Int (node_in row) = number.node ∙ ap Int same in
    let passes : is_between first last entry ≡ true =
    ap (λ v. is_true (binary (Compare Ge Binary) v (Int first)) && is_true (binary (Compare Le Binary) v (Int last))) value
    ∙ (λ i. at_least_is (node_in row) first span.0 i && at_most_is (node_in row) last span.1 i) in
    true≢false (sym passes ∙ all_has (λ e. is_between first last e ≡ false) entries entry out there)))) shown within

-- of few nodes nothing is told
pub untold : (s : State) (shown : List Row) → TellsNoEntries s shown false
untold s shown book is = absurd (true≢false (sym is))

-- ---- one row more

pub one_more : (first last : ℤ) (rows : List Row) (i : ℕ) (row : Row) → i < length rows → get_or rows i row ≡ row → (lower upper : ℤ) → lower ≤ℤ first → last ≤ℤ upper → lower ≤ℤ node_in row → node_in row ≤ℤ upper
    → AreWithin first last (take i rows) → AreWithin lower upper (take (i + 1) rows)
one_more first last rows i row within is lower upper low high its_low its_high before =
    let P : Row → Type 0 = λ r. (lower ≤ℤ node_in r) × (node_in r ≤ℤ upper) in
    let wider : AreWithin lower upper (take i rows) = all_weaker (λ r. (first ≤ℤ node_in r) × (node_in r ≤ℤ last)) P (λ r span. (grind (arith, ints, low, span.0), grind (arith, ints, high, span.1))) (take i rows) before in
    recursion_from_All P (take (i + 1) rows) (All-more P rows i row within (All-from_recursion P (take i rows) wider) (subst P (sym is) (its_low, its_high)))

-- ---- what is told of nodes without entries

bare_list : (entries : List Row) (n : ℤ) (protected : Bool) → AllByRecursion (λ entry. has ace_node_place (Int n) entry ≡ false) entries → list_in entries (Int n) protected ≡ []
bare_list entries n protected none =
    ap (λ l. map entry_of (sort_by by_place l)) (filter_none (is_entry (Int n) protected) entries
    (all_weaker (λ entry. has ace_node_place (Int n) entry ≡ false) (λ entry. is_entry (Int n) protected entry ≡ false) (λ entry h. ap (λ b. b && has ace_protected_place (flag protected) entry) h) entries none))

pub bare_children : (rows : Rows) (front : List ℕ) (shown : List Row) → HaveNoEntries rows shown → map (child_among [] front) shown ≡ map (child_shown rows front) shown
bare_children rows front [] none = refl
bare_children rows front (row ∷ shown) none =
    λ i. listed_shown front (sym (bare_list rows.entries (node_in row) true none.0) i) (sym (bare_list rows.entries (node_in row) false none.0) i) row ∷ bare_children rows front shown none.1 i

pub bare_cards : (rows : Rows) (front : List ℕ) (shown : List Row) → HaveNoEntries rows shown → map (card_among [] front) shown ≡ map (card_shown rows front) shown
bare_cards rows front [] none = refl
bare_cards rows front (row ∷ shown) none = λ i. changed_shown front (sym (bare_list rows.entries (node_in row) false none.0) i) row ∷ bare_cards rows front shown none.1 i

-- ---- what is shown after a look was shown before

pub children_before : (old mid : State) → Looks old mid → (id : ℤ) (front : List ℕ) (rows : List Row) (children : List Listed) → ShowsChildrenOf mid id front rows children → ShowsChildrenOf old id front rows children
children_before old mid look id front rows children shows book =
    let same : mid.now ≡ old.now = look.same book in
    subst (λ (d : Database). rows ≡ lists.children_of id (rows_of d.trees) → children ≡ map (child_shown (rows_of d.trees) front) rows) same (shows (subst IsBook (sym same) book))

pub cards_before : (old mid : State) → Looks old mid → (book_id : ℤ) (number : ℕ) (front : List ℕ) (rows : List Row) (changes : List Changed) → ShowsCards mid book_id number front rows changes → ShowsCards old book_id number front rows changes
cards_before old mid look id number front rows changes shows book =
    let same : mid.now ≡ old.now = look.same book in
    subst (λ (d : Database). (most : Option ℕ) → AreFirst most changed_number_place (lists.changed_rows id number (rows_of d.trees)) rows → changes ≡ map (card_shown (rows_of d.trees) front) rows) same (shows (subst IsBook (sym same) book))
