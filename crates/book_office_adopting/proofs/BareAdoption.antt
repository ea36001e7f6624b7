-- What adopting a policy does is told by the Office without its cards and changes.
use Rattle.book_office_adopting.proofs.Common.{◌≡◌, ℕ, ◌+◌, Bool, true, false, cond, not, List, Option, Some, None, option_map, refl, sym, ap, ◌∙◌, nat_list_cmp_total, get, len, same_map, Book, Office, book_path, names_apart, PolicyBook, PolicyTables, taken_over, adopt, same_office, emptied, bare, bare_books}
use Rattle.book_office_adopting.specs.Adopting.{adoption_of}
use Rattle.book_office_adopting.proofs.Adoptions.{book_after, book_there}
use Rattle.book_office_adopting.proofs.Merges.{get_mapped}
use Rattle.book_office_adopting.proofs.Samenesses.{same_office_is, office_itself}
use Rattle.book_office_adopting.proofs.TakenOver.{bare_twice, stays, told, len_bare}

pub bare_is_bare : (o : Office) → bare (bare o) ≡ bare o
bare_is_bare o = λ i. record (bare o) { books = bare_twice o.books i }

module _ (t : PolicyTables) (o : Office) where
  emptied_over : (at : List ℕ) (named : Option PolicyBook) (r : Option Book)
      → option_map emptied (book_after t at named (option_map emptied r)) ≡ option_map emptied (book_after t at named r)
  emptied_over at None None = refl
  emptied_over at None (Some book) = refl
  emptied_over at (Some named) None = refl
  emptied_over at (Some named) (Some book) = refl

  books_over : bare_books (taken_over t (bare o)).books ≡ bare_books (taken_over t o).books
  books_over = same_map nat_list_cmp_total names_apart _ _ (λ q.
      get_mapped _ (taken_over t (bare o)).books q
      ∙ ap (option_map emptied) (book_there t (bare o) q ∙ ap (book_after t (book_path q) (get t.books q)) (get_mapped _ o.books q))
      ∙ emptied_over (book_path q) (get t.books q) (get o.books q)
      ∙ ap (option_map emptied) (sym (book_there t o q)) ∙ sym (get_mapped _ (taken_over t o).books q))

  -- what the policy makes of the Office, but for cards and changes
  pub bare_over : bare (taken_over t (bare o)) ≡ bare (taken_over t o)
  bare_over = λ i. record (bare (taken_over t o)) { books = books_over i }

  stays_if_bare : taken_over t (bare o) ≡ bare o → taken_over t o ≡ o
  stays_if_bare e = stays t o (sym (bare_is_bare o) ∙ sym (bare_is_bare (bare o)) ∙ ap (λ p. bare (bare p)) (sym e) ∙ ap bare bare_over)

  bare_stays : taken_over t o ≡ o → taken_over t (bare o) ≡ bare o
  bare_stays e = stays t (bare o) (ap bare (sym (ap bare e)) ∙ ap bare (sym bare_over))

  -- whether the Office differs from before is told without cards and changes
  same_told : same_office (bare o) (taken_over t (bare o)) ≡ same_office o (taken_over t o)
  same_told = told t o (same_office (bare o) (taken_over t (bare o)))
      (λ h. stays_if_bare (sym (same_office_is (bare o) (taken_over t (bare o)) h)))
      (λ e. ap (same_office (bare o)) (bare_stays e) ∙ office_itself (bare o))

  pub adoption_told : adoption_of t (bare o) ≡ adoption_of t o
  adoption_told =
      let books : len (taken_over t (bare o)).books ≡ len (taken_over t o).books = sym (len_bare t (bare o)) ∙ ap len books_over ∙ len_bare t o in
      λ i. record { changed = not (same_told i); books = books i }

  bare_raised : (b : Bool) → bare (cond b (taken_over t (bare o)) (record (taken_over t (bare o)) { epoch = o.epoch + 1 }))
      ≡ bare (cond b (taken_over t o) (record (taken_over t o) { epoch = o.epoch + 1 }))
  bare_raised true = bare_over
  bare_raised false = ap (λ (p : Office). record p { epoch = o.epoch + 1 }) bare_over

  -- what the policy makes of the Office with the epoch, but for cards and changes
  pub adopted_bare : bare (adopt t (bare o)) ≡ bare (adopt t o)
  adopted_bare =
      ap (λ b. bare (cond b (taken_over t (bare o)) (record (taken_over t (bare o)) { epoch = o.epoch + 1 }))) same_told
      ∙ bare_raised (same_office o (taken_over t o))
