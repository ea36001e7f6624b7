-- The last changes of a book, by their numbers.
use Rattle.book_tables.proofs.Common.{◌≡◌, ℕ, suc, ◌<◌, true, List, [], ◌∷◌, map, Some, sym, ap, subst, ◌∙◌, arith, Less, nat_list_cmp_total, get, entries, IsAscending, Has, has_filtered, has_kept, ascending-map, Changed, changed_in, changes_after, NamesTo, Book, mem_get, get_mem, names_apart}
use Rattle.std.proofs.Common.{add-one, nat_lt, nat_cmp}
use Rattle.std.proofs.lemmas.Bool.Decides.{nat_tests}
use Rattle.std.specs.List.{IsAllAdjacentAnswer}
use Rattle.std.specs.Cmp.{nat_cmp_total, ranked}
use Rattle.std.specs.FinMap.{entries_sorted, get-from_entries, nat_cmp-IsAntisymmetric}
use Rattle.sqlite_keyed.proofs.ListLemmas.{all_weaker, ascending-filter, ascending_weaker}
use Rattle.book_office_values.specs.Changes.{Change, by_number}
use Rattle.book_office_values.proofs.Members.{mem_map, find_mem, mem_some}
use Rattle.book_tables.proofs.SameLists.{has_map, has_mapped, keys_rise}
use Rattle.book_tables.proofs.OfficeChildren.{has_mem, mem_has}
use Rattle.book_office_values.proofs.Indexes.{unswap}
use Rattle.book_office_values.proofs.Above.{above}

below : (a b : ℕ) → nat_lt a b ≡ true → a < b
below a b h = grind (arith, nat_tests)

-- one change is before another
abbrev pub IsEarlier : Changed → Changed → Type 0
IsEarlier a b = a.number < b.number

pub not_both : (a b : Changed) → IsEarlier a b → IsEarlier b a → ⊥
not_both a b ab ba = omega (arith, ab, ba)

module _ (last : NamesTo ℕ) where
  listed : List Change
  listed = map (λ (e : List ℕ × ℕ). (e.1, e.0)) (entries last)

  named : (n : ℕ) (q : List ℕ) → get (by_number last) n ≡ Some q → get last q ≡ Some n
  named n q f = mem_get nat_list_cmp_total names_apart last q n
      (unswap (entries last) n q (find_mem nat_cmp_total nat_cmp-IsAntisymmetric (map (λ (e : List ℕ × ℕ). (e.1, e.0)) (entries last)) n q (sym (get-from_entries nat_cmp_total (map (λ (e : List ℕ × ℕ). (e.1, e.0)) (entries last)) n) ∙ f)))

  numbered : ((a b : List ℕ) (n : ℕ) → get last a ≡ Some n → get last b ≡ Some n → a ≡ b) → (n : ℕ) (q : List ℕ) → get last q ≡ Some n → get (by_number last) n ≡ Some q
  numbered different n q at =
      let swapped = map (λ (e : List ℕ × ℕ). (e.1, e.0)) (entries last) in
      let some = mem_some nat_cmp_total nat_cmp-IsAntisymmetric swapped n q (mem_map (λ (e : List ℕ × ℕ). (e.1, e.0)) (q, n) (entries last) (get_mem nat_list_cmp_total names_apart last q n at)) in
      let got : get (by_number last) n ≡ Some some.0 = get-from_entries nat_cmp_total swapped n ∙ some.1 in
      got ∙ ap Some (different some.0 q n (named n some.0 got) at)

module _ (book : Book) where
  -- what a change of the book is
  pub record IsChange (n : ℕ) (c : Changed) : Type 0 where
    pub number : get book.changes.last c.name ≡ Some c.number
    pub above : n < c.number
    pub card : c.card ≡ get book.cards c.name

  abbrev told : Change → Changed
  told c = record { number = c.0; name = c.1; card = get book.cards c.1 }

  pub are_changes : (n : ℕ) (c : Changed) → Has (changed_in book (changes_after book.changes.last n)) c → IsChange n c
  are_changes n c h =
      let it = has_mapped told (changes_after book.changes.last n) c h in
      let f = has_filtered (λ (e : Change). nat_lt n e.0) (entries (by_number book.changes.last)) it.0 it.1 in
      let got = mem_get nat_cmp_total nat_cmp-IsAntisymmetric (by_number book.changes.last) it.0.0 it.0.1 (has_mem it.0 (entries (by_number book.changes.last)) f.0) in
      record {
        number = (λ i. get book.changes.last (it.2 i).name) ∙ named book.changes.last it.0.0 it.0.1 got ∙ ap (λ (z : Changed). Some z.number) (sym it.2);
        above = subst (λ (z : Changed). n < z.number) (sym it.2) (below n it.0.0 f.1);
        card = ap (λ (z : Changed). z.card) it.2 ∙ ap (λ (z : Changed). get book.cards z.name) (sym it.2);
      }

  pub changes_are : ((a b : List ℕ) (n : ℕ) → get book.changes.last a ≡ Some n → get book.changes.last b ≡ Some n → a ≡ b) → (n : ℕ) (c : Changed) → IsChange n c → Has (changed_in book (changes_after book.changes.last n)) c
  changes_are different n c is =
      let got = numbered book.changes.last different c.number c.name is.number in
      let there = mem_has (c.number, c.name) (entries (by_number book.changes.last)) (get_mem nat_cmp_total nat_cmp-IsAntisymmetric (by_number book.changes.last) c.number c.name got) in
      let kept = has_kept (λ (e : Change). nat_lt n e.0) (entries (by_number book.changes.last)) (c.number, c.name) there (above n c.number is.above) in
      let same : told (c.number, c.name) ≡ c = (λ i. record { number = c.number; name = c.name; card = sym is.card i }) in
      subst (Has (changed_in book (changes_after book.changes.last n))) same (has_map told (changes_after book.changes.last n) (c.number, c.name) kept)

  pub changes_rise : (n : ℕ) → IsAscending IsEarlier (changed_in book (changes_after book.changes.last n))
  changes_rise n =
      let all = entries (by_number book.changes.last) in
      ascending-map IsEarlier told (changes_after book.changes.last n)
      (ascending_weaker (λ a b. nat_cmp a.0 b.0 ≡ Less) (λ a b. a.0 < b.0) (λ a b less. ranked a.0 b.0 Less (sym less)) (changes_after book.changes.last n)
      (ascending-filter (λ a b. nat_cmp a.0 b.0 ≡ Less) (λ (e : Change). nat_lt n e.0) all (keys_rise nat_cmp all (entries_sorted (by_number book.changes.last)))))

-- neighbours that rise, and so do all
pub neighbours_rise : (xs : List Changed) → IsAllAdjacentAnswer (λ x y b. b ≡ nat_lt x.number y.number) xs true → IsAscending IsEarlier xs
neighbours_rise [] h = tt
neighbours_rise (x ∷ []) h = (tt, tt)
neighbours_rise (x ∷ y ∷ ys) h =
    let rest : IsAllAdjacentAnswer (λ x y b. b ≡ nat_lt x.number y.number) (y ∷ ys) true = λ k d low. rw add-one (rw add-one at (h (suc k) d (omega (arith, low)))) in
    let up = neighbours_rise (y ∷ ys) rest in
    let first : x.number < y.number = below x.number y.number (sym (h 0 x (omega arith))) in
    ((first, all_weaker (λ (z : Changed). y.number < z.number) (λ (z : Changed). x.number < z.number) (λ z l. omega (arith, first, l)) ys up.0), up)
