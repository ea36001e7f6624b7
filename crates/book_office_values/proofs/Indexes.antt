-- The names by number, beside the last change of each name.
use Rattle.book_office_values.proofs.Common.{◌≡◌, ℕ, ◌+◌, ◌<◌, inl, inr, List, [], ◌∷◌, Bool, true, false, cond, Option, Some, None, refl, sym, ap, ◌∙◌, subst, arith, is_eq, nat_cmp_total, eq_by_cmp_equiv, nat_list_cmp_total, get, insert, remove, entries, get-insert, get-remove, same_map, nat_cmp-IsAntisymmetric, name_cmp, NamesTo, Numbers, touched, AreNumbers}
use Rattle.std.proofs.Common.{map}
use Rattle.std.specs.Ordering.{nat_cmp}
use Rattle.std.specs.FinMap.{empty, get-empty, get-from_entries}
use Rattle.std.proofs.lemmas.Option.{same_Some}
use Rattle.book_office_values.specs.Changes.{NumberedNames, Change, by_number, without, IsInverse, AreIndexed}
use Rattle.book_office_values.proofs.NameMapLaws.{names_apart, same, is_same, same_itself, tied, put_at}
use Rattle.book_office_values.proofs.Members.{Mem, mem_map, find_mem, mem_some, mem_get, get_mem}
use Rattle.book_office_values.proofs.Touches.{touched_within}
use Rattle.book_office_values.proofs.OneName.{some_apart}

-- whether two numbers are one
abbrev pub one : ℕ → ℕ → Bool
one a b = is_eq (nat_cmp a b)

pub is_one : (a b : ℕ) → one a b ≡ true → a ≡ b
is_one a b e = nat_cmp-IsAntisymmetric a b (tied _ e)

pub one_itself : (a : ℕ) → one a a ≡ true
one_itself a = (eq_by_cmp_equiv nat_cmp_total).refl a

pub not_one : (a b : ℕ) → (a ≡ b → ⊥) → one a b ≡ false
not_one a b h = elim (one a b) as (λ t. one a b ≡ t → t ≡ false) [ true ↦ λ e. absurd (h (is_one a b e)) | false ↦ λ _. refl ] refl

pub unswap : (es : List (List ℕ × ℕ)) (n : ℕ) (q : List ℕ) → Mem {A = Change} (n, q) (map (λ (e : List ℕ × ℕ). (e.1, e.0)) es) → Mem {A = List ℕ × ℕ} (q, n) es
unswap [] n q m = absurd m
unswap (e ∷ es) n q m = elim m [
  | inl is ↦ inl (let a : n ≡ e.1 = ap (λ p. p.0) is in let b : q ≡ e.0 = ap (λ p. p.1) is in λ i. (b i, a i))
  | inr r ↦ inr (unswap es n q r)
]

module _ (last : NamesTo ℕ) (names : NumberedNames) (inverse : IsInverse last names) where
  -- to be found by number is to be found in what is made of the entries
  pub names_are : names ≡ by_number last
  names_are = same_map nat_cmp_total nat_cmp-IsAntisymmetric names (by_number last) (λ n. elim (get names n) as (λ x. get names n ≡ x → x ≡ get (by_number last) n) [
    | Some q ↦ λ e. sym (made n q (inverse.back q n e))
    | None ↦ λ e. elim (get (by_number last) n) as (λ y. get (by_number last) n ≡ y → None ≡ y) [
      | None ↦ λ _. refl
      | Some q ↦ λ f. some_apart (sym (inverse.there q n (back n q f)) ∙ e)
    ] refl
  ] refl)
    where
      listed : List Change
      listed = map (λ (e : List ℕ × ℕ). (e.1, e.0)) (entries last)

      back : (n : ℕ) (q : List ℕ) → get (by_number last) n ≡ Some q → get last q ≡ Some n
      back n q f = mem_get nat_list_cmp_total names_apart last q n (unswap (entries last) n q (find_mem nat_cmp_total nat_cmp-IsAntisymmetric listed n q (sym (get-from_entries nat_cmp_total listed n) ∙ f)))

      made : (n : ℕ) (q : List ℕ) → get last q ≡ Some n → get (by_number last) n ≡ Some q
      made n q at =
          let some = mem_some nat_cmp_total nat_cmp-IsAntisymmetric listed n q (mem_map (λ (e : List ℕ × ℕ). (e.1, e.0)) (q, n) (entries last) (get_mem nat_list_cmp_total names_apart last q n at)) in
          let got : get (by_number last) n ≡ Some some.0 = get-from_entries nat_cmp_total listed n ∙ some.1 in
          got ∙ sym (inverse.there some.0 n (back n some.0 got)) ∙ inverse.there q n at

  -- no two names have one number
  pub inverse_different : (a b : List ℕ) (n : ℕ) → get last a ≡ Some n → get last b ≡ Some n → a ≡ b
  inverse_different a b n ea eb = same_Some a b (sym (inverse.there a n ea) ∙ inverse.there b n eb)

pub indexed_empty : AreIndexed (record { number = 0; last = empty }) empty
indexed_empty = record {
  within = λ q n e. some_apart (sym e ∙ get-empty name_cmp q);
  inverse = record {
    there = λ q n e. some_apart (sym e ∙ get-empty name_cmp q);
    back = λ q n e. some_apart (sym e ∙ get-empty nat_cmp n);
  };
}

without_at : (before : Option ℕ) (m : ℕ) (names : NumberedNames) → ((b : ℕ) → before ≡ Some b → one m b ≡ false) → get (without names before) m ≡ get names m
without_at None m names h = refl
without_at (Some b) m names h = get-remove nat_cmp_total names b m ∙ ap (λ t. cond t None (get names m)) (h b refl)

without_back : (before : Option ℕ) (m : ℕ) (q : List ℕ) (names : NumberedNames) → get (without names before) m ≡ Some q → (get names m ≡ Some q) × ((b : ℕ) → before ≡ Some b → one m b ≡ false)
without_back None m q names e = (e, λ b h. some_apart (sym h))
without_back (Some b) m q names e =
    elim (one m b) as (λ t. one m b ≡ t → cond t None (get names m) ≡ Some q → (get names m ≡ Some q) × ((c : ℕ) → Some b ≡ Some c → one m c ≡ false)) [
      | true ↦ λ _ h. some_apart (sym h)
      | false ↦ λ f h. (h, λ c s. subst (λ x. one m x ≡ false) (same_Some b c s) f)
    ] refl (sym (get-remove nat_cmp_total names b m) ∙ e)

-- a name takes a number above all others
module _ (last : NamesTo ℕ) (names : NumberedNames) (inverse : IsInverse last names) (name : List ℕ) (number : ℕ) (fresh : (other : List ℕ) (n : ℕ) → get last other ≡ Some n → n < number) where
  new_number : get names number ≡ None
  new_number = elim (get names number) as (λ x. get names number ≡ x → x ≡ None) [
    | None ↦ λ _. refl
    | Some q ↦ λ e. let h = fresh q number (inverse.back q number e) in absurd (omega arith)
  ] refl

  put_there : (q : List ℕ) (m : ℕ) → get (insert last name number) q ≡ Some m → get (without (insert names number name) (get last name)) m ≡ Some q
  put_there q m e =
      elim (same q name) as (λ t. same q name ≡ t → cond t (Some number) (get last q) ≡ Some m → get (without (insert names number name) (get last name)) m ≡ Some q) [
        | true ↦ λ t h.
            let is : number ≡ m = same_Some number m h in
            without_at (get last name) m (insert names number name) (λ b s. let low = fresh name b s in not_one m b (λ tie. omega arith))
            ∙ get-insert nat_cmp_total names number name m
            ∙ ap (λ x. cond x (Some name) (get names m)) (subst (λ x. one m x ≡ true) (sym is) (one_itself m))
            ∙ ap Some (sym (is_same q name t))
        | false ↦ λ f h.
            let low = fresh q m h in
            without_at (get last name) m (insert names number name) (λ b s. not_one m b (λ tie.
            let two : name ≡ q = same_Some name q (sym (inverse.there name b s) ∙ ap (get names) (sym tie) ∙ inverse.there q m h) in
            let ties : same q name ≡ true = subst (λ x. same q x ≡ true) (sym two) (same_itself q) in
            let clash : true ≡ false = sym ties ∙ f in cc))
            ∙ get-insert nat_cmp_total names number name m
            ∙ ap (λ x. cond x (Some name) (get names m)) (not_one m number (λ tie. omega arith))
            ∙ inverse.there q m h
      ] refl (sym (put_at last name number q) ∙ e)

  put_back : (q : List ℕ) (m : ℕ) → get (without (insert names number name) (get last name)) m ≡ Some q → get (insert last name number) q ≡ Some m
  put_back q m e =
      let parts = without_back (get last name) m q (insert names number name) e in
      elim (one m number) as (λ t. one m number ≡ t → cond t (Some name) (get names m) ≡ Some q → get (insert last name number) q ≡ Some m) [
        | true ↦ λ t h.
            let is : name ≡ q = same_Some name q h in
            put_at last name number q
            ∙ ap (λ x. cond x (Some number) (get last q)) (subst (λ x. same q x ≡ true) (sym is) (same_itself q))
            ∙ ap Some (sym (is_one m number t))
        | false ↦ λ f h.
            let old : get last q ≡ Some m = inverse.back q m h in
            put_at last name number q
            ∙ elim (same q name) as (λ x. same q name ≡ x → cond x (Some number) (get last q) ≡ Some m) [
              | true ↦ λ t.
                  let hit : get last name ≡ Some m = ap (get last) (sym (is_same q name t)) ∙ old in
                  let clash : true ≡ false = sym (one_itself m) ∙ parts.1 m hit in absurd cc
              | false ↦ λ _. old
            ] refl
      ] refl (sym (get-insert nat_cmp_total names number name m) ∙ parts.0)

  inverse_put : IsInverse (insert last name number) (without (insert names number name) (get last name))
  inverse_put = record { there = put_there; back = put_back }

  undone_number : remove (insert names number name) number ≡ names
  undone_number = same_map nat_cmp_total nat_cmp-IsAntisymmetric _ _ (λ m.
      get-remove nat_cmp_total (insert names number name) number m
      ∙ ap (cond (one m number) None) (get-insert nat_cmp_total names number name m)
      ∙ elim (one m number) as (λ t. one m number ≡ t → cond t None (cond t (Some name) (get names m)) ≡ get names m) [
        | true ↦ λ t. sym new_number ∙ ap (get names) (sym (is_one m number t))
        | false ↦ λ _. refl
      ] refl)

module _ (c : Numbers) (names : NumberedNames) (indexed : AreIndexed c names) (name : List ℕ) where
  fresh : (other : List ℕ) (n : ℕ) → get c.last other ≡ Some n → n < c.number + 1
  fresh other n e = let w = indexed.within other n e in omega arith

  -- a change in both maps
  pub indexed_touched : AreIndexed (touched c name) (without (insert names (c.number + 1) name) (get c.last name))
  indexed_touched = record {
    within = touched_within c name indexed.within;
    inverse = inverse_put c.last names indexed.inverse name (c.number + 1) fresh;
  }

  -- the next number is free
  pub index_free : get names (c.number + 1) ≡ None
  index_free = new_number c.last names indexed.inverse name (c.number + 1) fresh

  pub index_free_next : get names (c.number + 1 + 1) ≡ None
  index_free_next = new_number c.last names indexed.inverse name (c.number + 1 + 1) (λ other n e. let w = indexed.within other n e in omega arith)

  -- a change that was begun and is taken back
  pub index_undone : remove (insert names (c.number + 1) name) (c.number + 1) ≡ names
  index_undone = undone_number c.last names indexed.inverse name (c.number + 1) fresh

-- the rule that the numbers meet
pub indexed_are : (c : Numbers) (names : NumberedNames) → AreIndexed c names → AreNumbers c
indexed_are c names indexed = record { within = indexed.within; different = inverse_different c.last names indexed.inverse }
