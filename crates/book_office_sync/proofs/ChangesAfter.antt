-- The changes above a number are there, each once, in order.
use Rattle.book_office_sync.proofs.Common.{◌≡◌, ℕ, ◌<◌, ◌≤◌, inl, inr, zero, suc, List, [], ◌∷◌, map, filter, length, Bool, true, false, cond, Some, refl, sym, ap, ◌∙◌, arith, nat_lt, get, NamesTo, nat_tests, Change, changes_after, Mem}
use Rattle.std.proofs.Common.{T, take}
use Rattle.std.specs.declared.cmp.Ordering.TheVariants.{Less}
use Rattle.std.specs.Ordering.{nat_cmp, is_lt}
use Rattle.std.specs.Cmp.{nat_cmp_total, ranked}
use Rattle.std.specs.Cmp.Lexicographic.{nat_list_cmp_total}
use Rattle.std.specs.FinMap.{entries, entries_sorted, find, is_sorted, get-from_entries, nat_cmp-IsAntisymmetric}
use Rattle.std.specs.FinMap.Entries.{below_all, is_sorted-where_key}
use Rattle.book_office_values.proofs.NameMapLaws.{names_apart}
use Rattle.book_office_values.specs.Changes.{by_number}
use Rattle.book_office_sync.specs.Copies.{last_number}
use Rattle.book_office_values.proofs.Members.{mem_map, find_mem, mem_some, mem_get, get_mem, less, first, second}
use Rattle.book_office_sync.proofs.Filters.{mem_filter, filter_mem}
use Rattle.book_office_values.proofs.Indexes.{unswap}

swapped : List (List ℕ × ℕ) → List Change
swapped es = map (λ e. (e.1, e.0)) es

module _ (last : NamesTo ℕ) where
  -- a change above a number is the last of its name
  pub after_last : (n number : ℕ) (q : List ℕ) → Mem (number, q) (changes_after last n) → get last q ≡ Some number
  after_last n number q m =
      let there : Mem (number, q) (entries (by_number last)) = filter_mem (λ (c : Change). nat_lt n c.0) (number, q) (entries (by_number last)) m in
      let got : get (by_number last) number ≡ Some q = mem_get nat_cmp_total nat_cmp-IsAntisymmetric (by_number last) number q there in
      let found : find nat_cmp number (map (λ (e : List ℕ × ℕ). (e.1, e.0)) (entries last)) ≡ Some q = sym (get-from_entries nat_cmp_total (map (λ (e : List ℕ × ℕ). (e.1, e.0)) (entries last)) number) ∙ got in
      mem_get nat_list_cmp_total names_apart last q number (unswap (entries last) number q (find_mem nat_cmp_total nat_cmp-IsAntisymmetric _ number q found))

  -- where no two names have one number, each change above a number is there
  pub after_whole : ((a b : List ℕ) (n : ℕ) → get last a ≡ Some n → get last b ≡ Some n → a ≡ b)
      → (n number : ℕ) (q : List ℕ) → get last q ≡ Some number → nat_lt n number ≡ true → Mem (number, q) (changes_after last n)
  after_whole different n number q at above =
      let names : Mem (number, q) (map (λ (e : List ℕ × ℕ). (e.1, e.0)) (entries last)) = mem_map (λ (e : List ℕ × ℕ). (e.1, e.0)) (q, number) (entries last) (get_mem nat_list_cmp_total names_apart last q number at) in
      let some = mem_some nat_cmp_total nat_cmp-IsAntisymmetric (map (λ (e : List ℕ × ℕ). (e.1, e.0)) (entries last)) number q names in
      let other : get last some.0 ≡ Some number = mem_get nat_list_cmp_total names_apart last some.0 number (unswap (entries last) number some.0 (find_mem nat_cmp_total nat_cmp-IsAntisymmetric _ number some.0 some.1)) in
      let one : some.0 ≡ q = different some.0 q number other at in
      let got : get (by_number last) number ≡ Some q = get-from_entries nat_cmp_total (map (λ (e : List ℕ × ℕ). (e.1, e.0)) (entries last)) number ∙ some.1 ∙ ap Some one in
      mem_filter (λ (c : Change). nat_lt n c.0) (number, q) (entries (by_number last)) (get_mem nat_cmp_total nat_cmp-IsAntisymmetric (by_number last) number q got) above

-- the numbers rise from above n
abbrev pub Rising : ℕ → List Change → Type 0
Rising n [] = Unit {0}
Rising n (c ∷ cs) = (n < c.0) × Rising c.0 cs

lower : (a b : ℕ) → T (is_lt (nat_cmp a b)) → a < b
lower a b h = ranked a b Less (sym (less _ h))

rising_from : (n : ℕ) (c : Change) (cs : List Change) → n < c.0 → T (below_all nat_cmp c.0 cs) → T (is_sorted nat_cmp cs) → Rising n (c ∷ cs)
rising_from n c [] h b s = (h, tt)
rising_from n c (d ∷ cs) h b s = (h, rising_from c.0 d cs (lower c.0 d.0 (first _ _ b)) (first _ _ s) (second _ _ s))

rising_member : (n number : ℕ) (q : List ℕ) (cs : List Change) → Rising n cs → Mem (number, q) cs → n < number
rising_member n number q [] r m = absurd m
rising_member n number q (c ∷ cs) r m = elim m [
  | inl is ↦ let e : number ≡ c.0 = ap (λ p. p.0) is in let h = r.0 in omega arith
  | inr k ↦ let h = rising_member c.0 number q cs r.1 k in let g = r.0 in omega arith
]

-- what isn't above the last number of the first changes is among them
pub among_first : (limit n number : ℕ) (q : List ℕ) (cs : List Change) → Rising n cs → Mem (number, q) cs → number ≤ last_number n (take limit cs) → Mem (number, q) (take limit cs)
among_first limit n number q [] r m few = absurd m
among_first zero n number q (c ∷ cs) r m few = let h = rising_member n number q (c ∷ cs) r m in absurd (omega arith)
among_first (suc limit) n number q (c ∷ cs) r m few = elim m [
  | inl is ↦ inl is
  | inr k ↦ inr (among_first limit c.0 number q cs r.1 k few)
]

pub take_mem : {A : Type 0} (limit : ℕ) (x : A) (xs : List A) → Mem x (take limit xs) → Mem x xs
take_mem zero x xs m = absurd m
take_mem (suc limit) x [] m = m
take_mem (suc limit) x (y ∷ ys) m = elim m [ inl is ↦ inl is | inr r ↦ inr (take_mem limit x ys r) ]

-- a list that is short enough is its own beginning
pub take_all : {A : Type 0} (limit : ℕ) (xs : List A) → length xs ≤ limit → take limit xs ≡ xs
take_all zero [] h = refl
take_all zero (x ∷ xs) h = absurd (omega (arith, h))
take_all (suc limit) [] h = refl
take_all (suc limit) (x ∷ xs) h = ap (λ r. x ∷ r) (take_all limit xs (omega (arith, h)))

filter_true : {A : Type 0} (p : A → Bool) (x : A) (xs : List A) → Mem x (filter p xs) → p x ≡ true
filter_true p x [] m = absurd m
filter_true p x (y ∷ ys) m =
    elim (p y) as (λ b. p y ≡ b → Mem x (cond b (y ∷ filter p ys) (filter p ys)) → p x ≡ true) [
      | true ↦ λ t. elim [ inl is ↦ ap p is ∙ t | inr r ↦ filter_true p x ys r ]
      | false ↦ λ _ r. filter_true p x ys r
    ] refl m

pub below : (a b : ℕ) → nat_lt a b ≡ true → a < b
below a b e = grind (arith, nat_tests)

rising_after : (n : ℕ) (cs : List Change) → T (is_sorted nat_cmp cs) → ((number : ℕ) (q : List ℕ) → Mem (number, q) cs → n < number) → Rising n cs
rising_after n [] s h = tt
rising_after n (c ∷ cs) s h = rising_from n c cs (h c.0 c.1 (inl refl)) (first _ _ s) (second _ _ s)

-- the changes above a number rise in number
pub changes_rise : (last : NamesTo ℕ) (n : ℕ) → Rising n (changes_after last n)
changes_rise last n = rising_after n (changes_after last n)
    (is_sorted-where_key nat_cmp (λ m. nat_lt n m) (entries (by_number last)) (entries_sorted (by_number last)))
    (λ number q m. below n number (filter_true (λ (c : Change). nat_lt n c.0) (number, q) (entries (by_number last)) m))

lowered : (n m : ℕ) (cs : List Change) → n ≤ m → Rising m cs → Rising n cs
lowered n m [] h r = tt
lowered n m (c ∷ cs) h r = (let a = r.0 in omega arith, r.1)

-- so do some of them
pub rising_filter : (p : Change → Bool) (n : ℕ) (cs : List Change) → Rising n cs → Rising n (filter p cs)
rising_filter p n [] r = tt
rising_filter p n (c ∷ cs) r =
    elim (p c) as (λ t. Rising n (cond t (c ∷ filter p cs) (filter p cs))) [
      | true ↦ (r.0, rising_filter p c.0 cs r.1)
      | false ↦ rising_filter p n cs (lowered n c.0 cs (let a = r.0 in omega arith) r.1)
    ]

pub last_number_within : (n top : ℕ) (cs : List Change) → n ≤ top → ((number : ℕ) (q : List ℕ) → Mem (number, q) cs → number ≤ top) → last_number n cs ≤ top
last_number_within n top [] few h = few
last_number_within n top (c ∷ cs) few h = last_number_within c.0 top cs (h c.0 c.1 (inl refl)) (λ number q m. h number q (inr m))
