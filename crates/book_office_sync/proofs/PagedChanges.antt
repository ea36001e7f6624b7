-- A page of changes, and the changes after it.
use Rattle.book_office_sync.proofs.Common.{◌≡◌, ℕ, ◌<◌, ◌≤◌, inl, inr, Mem, zero, suc, List, [], ◌∷◌, ◌++◌, filter, length, drop, true, false, cond, Some, None, is_some, option_map, unwrap_or, Option, refl, sym, ap, ◌∙◌, subst, arith, nat_lt, if◌then◌else◌, nat_tests, get, NamesTo, Change, changes_after, Book, Office, Token}
use Rattle.std.proofs.Common.{Bool, take, true≢false}
use Rattle.std.specs.FinMap.{entries}
use Rattle.book_limits.specs.declared.TheConstants.{LAST_NUMBER}
use Rattle.book_office_values.specs.Changes.{by_number, first_of}
use Rattle.book_office_values.proofs.CardChanges.{in_turn}
use Rattle.book_office.specs.Resources.{changed_in, is_of_card}
use Rattle.book_office.specs.Sound.{IsSound}
use Rattle.book_office.specs.declared.nodes.Changed.{Changed}
use Rattle.book_office.proofs.FirstOf.{first_map, first_none, filter_map}
use Rattle.book_office_sync.specs.Copies.{last_number}
use Rattle.book_office_sync.specs.Pages.{changes_told, last_changed, last_of_page, IsPage}
use Rattle.book_office_sync.proofs.ChangesAfter.{Rising, changes_rise, rising_filter, below, take_mem, take_all, after_last, last_number_within}
use Rattle.book_office_sync.proofs.Filters.{filter_mem, all_kept as kept_all}
use Rattle.book_office_sync.proofs.CutReports.{take_parts, map_parts}

above : (a b : ℕ) → a < b → nat_lt a b ≡ true
above a b h = grind (arith, nat_tests)

not_above : (a b : ℕ) → b ≤ a → nat_lt a b ≡ false
not_above a b h = grind (arith, nat_tests)

-- ---- the numbers of a page
-- the last number is not below those before it
last_high : (n : ℕ) (cs : List Change) (k : ℕ) → Rising n cs → n ≤ last_number n (take k cs)
last_high n cs zero r = omega arith
last_high n [] (suc k) r = omega arith
last_high n (c ∷ cs) (suc k) r = let h = last_high c.0 cs k r.1 in let low = r.0 in omega (arith, h, low)

last_higher : (n : ℕ) (cs : List Change) (k : ℕ) → Rising n cs → 0 < length (take k cs) → n < last_number n (take k cs)
last_higher n cs zero r some = absurd (omega (arith, some))
last_higher n [] (suc k) r some = absurd (omega (arith, some))
last_higher n (c ∷ cs) (suc k) r some = let h = last_high c.0 cs k r.1 in let low = r.0 in omega (arith, h, low)

all_kept : (n m : ℕ) (cs : List Change) → m ≤ n → Rising n cs → filter (λ (c : Change). nat_lt m c.0) cs ≡ cs
all_kept n m [] few r = refl
all_kept n m (c ∷ cs) few r =
    let low = r.0 in
    subst (λ b. cond b (c ∷ filter (λ (e : Change). nat_lt m e.0) cs) (filter (λ (e : Change). nat_lt m e.0) cs) ≡ c ∷ cs) (sym (above m c.0 (omega (arith, few, low))))
    (ap (λ l. c ∷ l) (all_kept c.0 m cs (omega (arith, few, low)) r.1))

-- those above the last number of the first so many are the others
rest_kept : (n k : ℕ) (cs : List Change) → Rising n cs → filter (λ (c : Change). nat_lt (last_number n (take k cs)) c.0) cs ≡ drop k cs
rest_kept n zero cs r = all_kept n n cs (omega arith) r
rest_kept n (suc k) [] r = refl
rest_kept n (suc k) (c ∷ cs) r =
    let m = last_number c.0 (take k cs) in
    subst (λ b. cond b (c ∷ filter (λ (e : Change). nat_lt m e.0) cs) (filter (λ (e : Change). nat_lt m e.0) cs) ≡ drop k cs) (sym (not_above m c.0 (last_high c.0 cs k r.1)))
    (rest_kept c.0 k cs r.1)

-- above a number, and above a lower one
twice : (n m : ℕ) (cs : List Change) → n ≤ m → filter (λ (c : Change). nat_lt m c.0) (filter (λ (c : Change). nat_lt n c.0) cs) ≡ filter (λ (c : Change). nat_lt m c.0) cs
twice n m [] few = refl
twice n m (c ∷ cs) few = go (nat_lt n c.0) (nat_lt m c.0) refl refl (twice n m cs few)
  where
    low : List Change
    low = filter (λ (e : Change). nat_lt n e.0) cs

    high : List Change
    high = filter (λ (e : Change). nat_lt m e.0) cs

    go : (a b : Bool) → nat_lt n c.0 ≡ a → nat_lt m c.0 ≡ b → filter (λ (e : Change). nat_lt m e.0) low ≡ high
        → filter (λ (e : Change). nat_lt m e.0) (cond a (c ∷ low) low) ≡ cond b (c ∷ high) high
    go true true ea eb more = subst (λ t. cond t (c ∷ filter (λ (e : Change). nat_lt m e.0) low) (filter (λ (e : Change). nat_lt m e.0) low) ≡ c ∷ high) (sym eb) (ap (λ l. c ∷ l) more)
    go true false ea eb more = subst (λ t. cond t (c ∷ filter (λ (e : Change). nat_lt m e.0) low) (filter (λ (e : Change). nat_lt m e.0) low) ≡ high) (sym eb) more
    go false true ea eb more = let h = below m c.0 eb in absurd (true≢false (sym (above n c.0 (omega (arith, few, h))) ∙ ea))
    go false false ea eb more = more

-- of some of the changes above a number: those above the last number of the first so many are the others
after_page : (last : NamesTo ℕ) (p : Change → Bool) (n k : ℕ)
    → filter p (changes_after last (last_number n (take k (filter p (changes_after last n))))) ≡ drop k (filter p (changes_after last n))
after_page last p n k =
    let cs = changes_after last n in
    let ks = filter p cs in
    let r = rising_filter p n cs (changes_rise last n) in
    let m = last_number n (take k ks) in
    ap (filter p) (sym (twice n m (entries (by_number last)) (last_high n ks k r)))
    ∙ in_turn p (λ (c : Change). nat_lt m c.0) cs ∙ rest_kept n k ks r

-- where there is a change, the last number is one of theirs
last_top : (n top : ℕ) (cs : List Change) → 0 < length cs → ((number : ℕ) (q : List ℕ) → Mem (number, q) cs → number ≤ top) → last_number n cs ≤ top
last_top n top [] some h = absurd (omega (arith, some))
last_top n top (c ∷ cs) some h = last_number_within c.0 top cs (h c.0 c.1 (inl refl)) (λ number q m. h number q (inr m))

-- ---- the changes of a page
last_changed_is : (x : Book) (n : ℕ) (cs : List Change) → last_changed n (changed_in x cs) ≡ last_number n cs
last_changed_is x n [] = refl
last_changed_is x n (c ∷ cs) = last_changed_is x c.0 cs

length_changed : (x : Book) (cs : List Change) → length (changed_in x cs) ≡ length cs
length_changed x [] = refl
length_changed x (c ∷ cs) = ap suc (length_changed x cs)

short : {A : Type 0} (k : ℕ) (xs : List A) → length (take k xs) < k → length xs ≤ k
short zero xs h = absurd (omega (arith, h))
short (suc k) [] h = omega arith
short (suc k) (x ∷ xs) h = let r = short k xs (omega (arith, h)) in omega (arith, r)

-- the change as it is told
abbrev told_of : Book → Change → Changed
told_of x c = record { number = c.0; name = c.1; card = get x.cards c.1 }

-- without a token a name that has a card, else each
abbrev pub is_about : Book → Option Token → Change → Bool
is_about x None c = is_some (get x.cards c.1)
is_about x (Some token) c = true

module _ (o : Office) (b : List ℕ) where
  pub told_in : (x : Book) → get o.books b ≡ Some x → (token : Option Token) (n : ℕ) → changes_told o b token n ≡ changed_in x (filter (is_about x token) (changes_after x.changes.last n))
  told_in x at None n =
      ap (λ found. filter is_of_card (unwrap_or (option_map (λ (y : Book). changed_in y (changes_after y.changes.last n)) found) [])) at
      ∙ filter_map (told_of x) is_of_card (changes_after x.changes.last n)
  told_in x at (Some token) n =
      ap (λ found. unwrap_or (option_map (λ (y : Book). changed_in y (changes_after y.changes.last n)) found) []) at
      ∙ ap (changed_in x) (sym (kept_all (changes_after x.changes.last n)))

  pub none_told : get o.books b ≡ None → (token : Option Token) (n : ℕ) → changes_told o b token n ≡ []
  none_told at None n = ap (λ found. filter is_of_card (unwrap_or (option_map (λ (y : Book). changed_in y (changes_after y.changes.last n)) found) [])) at
  none_told at (Some token) n = ap (λ found. unwrap_or (option_map (λ (y : Book). changed_in y (changes_after y.changes.last n)) found) []) at

  module _ (sound : IsSound o) (token : Option Token) (k n : ℕ) (some : 0 < k) (changes : List Changed) (told : changes ≡ first_of (Some k) (changes_told o b token n)) where
    module _ (x : Book) (at : get o.books b ≡ Some x) where
      abbrev ks : List Change
      ks = filter (is_about x token) (changes_after x.changes.last n)

      rises : Rising n ks
      rises = rising_filter (is_about x token) n (changes_after x.changes.last n) (changes_rise x.changes.last n)

      changes_are : changes ≡ changed_in x (take k ks)
      changes_are = told ∙ ap (first_of (Some k)) (told_in x at token n) ∙ sym (first_map (told_of x) (Some k) ks)

      last_is : last_changed n changes ≡ last_number n (take k ks)
      last_is = ap (last_changed n) changes_are ∙ last_changed_is x n (take k ks)

      size_is : length changes ≡ length (take k ks)
      size_is = ap length changes_are ∙ length_changed x (take k ks)

      others : changed_in x (drop k ks) ≡ changes_told o b token (last_changed n changes)
      others =
          ap (changed_in x) (sym (after_page x.changes.last (is_about x token) n k))
          ∙ sym (told_in x at token (last_number n (take k ks))) ∙ ap (changes_told o b token) (sym last_is)

      page_at : IsPage o b token n changes (last_of_page k n changes)
      page_at = go (nat_lt (length changes) k) refl
        where
          go : (t : Bool) → nat_lt (length changes) k ≡ t → IsPage o b token n changes (if t then None else Some (last_changed n changes))
          go true e =
              let fewer : length (take k ks) < k = subst (λ l. l < k) size_is (below (length changes) k e) in
              told_in x at token n ∙ ap (changed_in x) (sym (take_all k ks (short k ks fewer))) ∙ sym changes_are
          go false e =
              let many : 0 < length (take k ks) = subst (λ l. 0 < l) size_is (omega (arith, some, low e)) in
              let top : last_number n (take k ks) ≤ x.changes.number = last_top n x.changes.number (take k ks) many
              (λ m q h. ((sound.books b x at).1.within q m (after_last x.changes.last n m q (filter_mem (is_about x token) (m, q) (changes_after x.changes.last n) (take_mem k (m, q) ks h)))).1) in
              let end = (sound.books b x at).1.last in (
                subst (λ m. n < m) (sym last_is) (last_higher n ks k rises many),
                subst (λ m. m ≤ LAST_NUMBER) (sym last_is) (omega (arith, top, end)),
                told_in x at token n ∙ ap (changed_in x) (take_parts k ks) ∙ map_parts (told_of x) (take k ks) (drop k ks) ∙ (λ i. sym changes_are i ++ others i),
              )
            where
              low : nat_lt (length changes) k ≡ false → k ≤ length changes
              low h = grind (arith, nat_tests)

    none_there : get o.books b ≡ None → IsPage o b token n changes (last_of_page k n changes)
    none_there at =
        let none : changes ≡ [] = told ∙ ap (first_of (Some k)) (none_told at token n) ∙ sym (first_none (Some k)) in
        let ends : last_of_page k n changes ≡ None = ap (last_of_page k n) none ∙ ap (λ t. if t then None else Some n) (above 0 k some) in
        subst (IsPage o b token n changes) (sym ends) (none_told at token n ∙ sym none)

    pub is_page : IsPage o b token n changes (last_of_page k n changes)
    is_page = at_book (get o.books b) refl
      where
        at_book : (found : Option Book) → get o.books b ≡ found → IsPage o b token n changes (last_of_page k n changes)
        at_book None at = none_there at
        at_book (Some x) at = page_at x at
