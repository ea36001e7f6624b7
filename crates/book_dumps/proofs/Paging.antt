-- Changes that are read some at a time.
use Rattle.book_dumps.proofs.Common.{◌≡◌, ℕ, List, [], ◌∷◌, ◌++◌, map, take, drop, refl, sym, ap, ◌∙◌, subst, arith, Option, Some, None, option_map, Office}
use Rattle.std.proofs.Common.{zero, suc, ◌<◌, ◌≤◌, ◌-◌, ◌^◌, true, false, cond, filter, nat_lt, length, slice_get, IfSome}
use Rattle.std.specs.Prelude.{unwrap_or}
use Rattle.std.specs.FinMap.{entries, get}
use Rattle.std.proofs.lemmas.Bool.Decides.{nat_tests}
use Rattle.std.proofs.lemmas.List.Elements.{filter_map-append}
use Rattle.std.proofs.lemmas.List.{length-map, take-append-drop, map-append}
use Rattle.book_office.specs.Resources.{changed_after, changed_in}
use Rattle.book_office.specs.declared.nodes.Changed.{Changed}
use Rattle.book_office_sync.proofs.ChangesAfter.{Rising, changes_rise}
use Rattle.book_office_sync.specs.Copies.{last_number}
use Rattle.book_office_values.specs.Changes.{Change, above, by_number, changes_after}
use Rattle.book_office_values.specs.Names.{NamesTo}
use Rattle.book_office_values.specs.declared.offices.Book.{Book}
use Rattle.book_dumps.specs.Told.{if_removed, last_above, removed_after, removed_among}
use Rattle.book_dumps.specs.declared.lines.Removed.{Removed}

is_below : (a b : ℕ) → a < b → nat_lt a b ≡ true
is_below a b h = grind (arith, nat_tests)

not_below : (a b : ℕ) → b ≤ a → nat_lt a b ≡ false
not_below a b h = grind (arith, nat_tests)

-- all changes of a rising list are above the number below them
all_above : (m n : ℕ) (cs : List Change) → m ≤ n → Rising n cs → filter (λ (c : Change). nat_lt m c.0) cs ≡ cs
all_above m n [] few rising = refl
all_above m n (c ∷ cs) few rising =
    let h = rising.0 in
    ap (λ b. cond b (c ∷ filter (λ (c : Change). nat_lt m c.0) cs) (filter (λ (c : Change). nat_lt m c.0) cs)) (is_below m c.0 (omega arith))
    ∙ ap (λ rest. c ∷ rest) (all_above m c.0 cs (omega arith) rising.1)

rises : (k n : ℕ) (cs : List Change) → Rising n cs → n ≤ last_number n (take k cs)
rises zero n cs rising = omega arith
rises (suc k) n [] rising = omega arith
rises (suc k) n (c ∷ cs) rising = let h = rising.0 in let r = rises k c.0 cs rising.1 in omega arith

-- what is above the last of the first changes are those after them
after_first : (k n : ℕ) (cs : List Change) → Rising n cs → filter (λ (c : Change). nat_lt (last_number n (take k cs)) c.0) cs ≡ drop k cs
after_first zero n cs rising = all_above n n cs (omega arith) rising
after_first (suc k) n [] rising = refl
after_first (suc k) n (c ∷ cs) rising =
    let m = last_number c.0 (take k cs) in
    ap (λ b. cond b (c ∷ filter (λ (c : Change). nat_lt m c.0) cs) (filter (λ (c : Change). nat_lt m c.0) cs)) (not_below m c.0 (rises k c.0 cs rising.1))
    ∙ after_first k c.0 cs rising.1

-- changes above a number, among those above a smaller one
again : (m n : ℕ) (cs : List Change) → n ≤ m → filter (λ (c : Change). nat_lt m c.0) (filter (λ (c : Change). nat_lt n c.0) cs) ≡ filter (λ (c : Change). nat_lt m c.0) cs
again m n [] few = refl
again m n (c ∷ cs) few =
    elim (nat_lt n c.0) as (λ b. nat_lt n c.0 ≡ b → filter (λ (c : Change). nat_lt m c.0) (cond b (c ∷ filter (λ (c : Change). nat_lt n c.0) cs) (filter (λ (c : Change). nat_lt n c.0) cs)) ≡ filter (λ (c : Change). nat_lt m c.0) (c ∷ cs)) [
      | true ↦ λ _. ap (λ rest. cond (nat_lt m c.0) (c ∷ rest) rest) (again m n cs few)
      | false ↦ λ no. again m n cs few ∙ ap (λ b. cond b (c ∷ filter (λ (c : Change). nat_lt m c.0) cs) (filter (λ (c : Change). nat_lt m c.0) cs)) (sym (not_below m c.0 (let h = no in grind (arith, nat_tests))))
    ] refl

-- the changes above a number are the first of them and those above the last of these
parted : (last : NamesTo ℕ) (k n : ℕ) → let cs = changes_after last n in cs ≡ take k cs ++ changes_after last (last_number n (take k cs))
parted last k n =
    let cs = changes_after last n in
    let m = last_number n (take k cs) in
    let after : changes_after last m ≡ drop k cs =
    sym (again m n (entries (by_number last)) (rises k n cs (changes_rise last n))) ∙ after_first k n cs (changes_rise last n) in
    sym (take-append-drop k cs) ∙ ap (λ rest. take k cs ++ rest) (sym after)

abbrev as_changed : Book → Change → Changed
as_changed book c = record { number = c.0; name = c.1; card = get book.cards c.1 }

last_change : Change → List Change → Change
last_change c [] = c
last_change c (d ∷ cs) = last_change d cs

last_there : (book : Book) (c : Change) (cs : List Change) → slice_get (map (as_changed book) (c ∷ cs)) (length cs) ≡ Some (as_changed book (last_change c cs))
unfolding last_change
last_there book c [] = refl
last_there book c (d ∷ cs) = last_there book d cs

numbered : (c : Change) (cs : List Change) → (last_change c cs).0 ≡ last_number c.0 cs
unfolding last_change
numbered c [] = refl
numbered c (d ∷ cs) = numbered d cs

below_last : (n : ℕ) (c : Change) (cs : List Change) → Rising n (c ∷ cs) → n < last_number c.0 cs
below_last n c [] rising = rising.0
below_last n c (d ∷ cs) rising = let a = rising.0 in let b = rising.1.0 in below_last n d cs (omega arith, rising.1.1)

-- the number of the last of some rising changes
last_is : (book : Book) (n : ℕ) (c : Change) (cs : List Change) → Rising n (c ∷ cs) → last_above n (map (as_changed book) (c ∷ cs)) ≡ Some (last_number c.0 cs)
last_is book n c cs rising =
    let all = map (as_changed book) (c ∷ cs) in
    let place : length all - 1 ≡ length cs = omega (arith, length-map (c ∷ cs) (as_changed book)) in
    let m = last_number c.0 cs in
    ap (λ i. above n (option_map (λ (c : Changed). c.number) (slice_get all i))) place
    ∙ ap (λ r. above n (option_map (λ (c : Changed). c.number) r)) (last_there book c cs)
    ∙ ap (λ k. above n (Some k)) (numbered c cs) ∙ ap (λ b. cond b (Some m) None) (is_below n m (below_last n c cs rising))

-- how far the numbers are from their end
abbrev pub numbers_left : Option ℕ → ℕ
numbers_left None = 0
numbers_left (Some n) = suc (2 ^ 64 - n)

pub fewer_left : (n : ℕ) (r : Option ℕ) → IfSome r (λ m. (n < m) × (m < 2 ^ 64)) → numbers_left r < numbers_left (Some n)
fewer_left n None h = omega arith
fewer_left n (Some m) h = let a = h.0 in let b = h.1 in omega arith

-- the removed names that are still to be read
abbrev pub to_read : Office → List ℕ → Option ℕ → List Removed
to_read o b None = []
to_read o b (Some n) = removed_after o b n

rising_take : (k n : ℕ) (cs : List Change) → Rising n cs → Rising n (take k cs)
rising_take zero n cs rising = tt
rising_take (suc k) n [] rising = tt
rising_take (suc k) n (c ∷ cs) rising = (rising.0, rising_take k c.0 cs rising.1)

take_map : {A B : Type 0} (f : A → B) (k : ℕ) (xs : List A) → take k (map f xs) ≡ map f (take k xs)
take_map f zero xs = refl
take_map f (suc k) [] = refl
take_map f (suc k) (x ∷ xs) = ap (λ rest. f x ∷ rest) (take_map f k xs)

module _ (o : Office) (b : List ℕ) (n k : ℕ) where
  abbrev changed_of : Option Book → ℕ → List Changed
  changed_of found m = unwrap_or (option_map (λ (book : Book). changed_in book (changes_after book.changes.last m)) found) []

  abbrev left_of : Option Book → Option ℕ → List Removed
  left_of found None = []
  left_of found (Some m) = removed_among (changed_of found m)

  -- the changes of a book that is there
  by_page : (book : Book) (page : List Change) → page ≡ take (suc k) (changes_after book.changes.last n)
      → removed_among (map (as_changed book) page) ++ left_of (Some book) (last_above n (map (as_changed book) page)) ≡ removed_among (changed_of (Some book) n)
  by_page book [] is = none (changes_after book.changes.last n) is
    where
      none : (cs : List Change) → [] ≡ take (suc k) cs → [] ≡ removed_among (map (as_changed book) cs)
      none [] e = refl
      none (c ∷ cs) e = absurd cc
  by_page book (c ∷ page) is =
      let cs = changes_after book.changes.last n in
      let rising : Rising n (c ∷ page) = subst (Rising n) (sym is) (rising_take (suc k) n cs (changes_rise book.changes.last n)) in
      let m = last_number c.0 page in
      let whole : cs ≡ (c ∷ page) ++ changes_after book.changes.last m =
      parted book.changes.last (suc k) n ∙ ap (λ p. p ++ changes_after book.changes.last (last_number n p)) (sym is) in
      ap (λ next. removed_among (map (as_changed book) (c ∷ page)) ++ left_of (Some book) next) (last_is book n c page rising)
      ∙ sym (ap (λ l. removed_among (map (as_changed book) l)) whole
      ∙ ap removed_among (map-append (as_changed book) (c ∷ page) (changes_after book.changes.last m))
      ∙ filter_map-append if_removed (map (as_changed book) (c ∷ page)) (map (as_changed book) (changes_after book.changes.last m)))

  by_book : (found : Option Book) → get o.books b ≡ found → (page : List Changed) → page ≡ take (suc k) (changed_of found n)
      → removed_among page ++ left_of found (last_above n page) ≡ removed_among (changed_of found n)
  by_book None at page is = ap (λ p. removed_among p ++ left_of None (last_above n p)) is
  by_book (Some book) at page is =
      let cs = changes_after book.changes.last n in
      let same : page ≡ map (as_changed book) (take (suc k) cs) = is ∙ take_map (as_changed book) (suc k) cs in
      ap (λ p. removed_among p ++ left_of (Some book) (last_above n p)) same ∙ by_page book (take (suc k) cs) refl

  left_same : (next : Option ℕ) → to_read o b next ≡ left_of (get o.books b) next
  left_same None = refl
  left_same (Some m) = refl

  -- the removed names of a page and those still to be read are those that were to be read
  pub page_read : (page : List Changed) → page ≡ take (suc k) (changed_after o b n) → removed_among page ++ to_read o b (last_above n page) ≡ removed_after o b n
  page_read page is = ap (λ rest. removed_among page ++ rest) (left_same (last_above n page)) ∙ by_book (get o.books b) refl page is
