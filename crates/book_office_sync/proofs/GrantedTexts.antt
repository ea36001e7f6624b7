-- The texts that are read are those on which the leaf is granted.
use Rattle.book_office_sync.proofs.Common.{◌≡◌, ℕ, ◌≤◌, ◌⊎◌, inl, inr, true, cond, List, [], ◌∷◌, ◌++◌, filter, is_some, map, Option, Some, None, option_map, option_and_then, unwrap_or, refl, sym, ap, ◌∙◌, subst, arith, nat_lt, if◌then◌else◌, nat_tests, get, CircleOf, Mem, Change, changes_after, NamesTo, Book, Office, StoredCard, number_of}
use Rattle.std.specs.FinMap.{empty, get-empty}
use Rattle.book_rights.specs.declared.privileges.Leaf.{Leaf}
use Rattle.book_lists.specs.Names.{name_cmp}
use Rattle.book_lists.specs.declared.entries.Entry.{Entry}
use Rattle.book_office_values.proofs.NameMapLaws.{by_same, by_names, put_at}
use Rattle.book_office_values.proofs.OneName.{where_some}
use Rattle.book_office_values.specs.declared.paths.Path.TheVariants as path
use Rattle.book_office.specs.Levels.{effective_of, lists_at}
use Rattle.book_office.specs.OwnLists.{entries_in_force}
use Rattle.book_office.specs.Resources.{Resource, card_in, card_resource, cards_after, changed_in, changed_after, is_of_card}
use Rattle.book_office.specs.Sound.{IsSound, IsSoundBook}
use Rattle.book_office.specs.declared.nodes.Changed.{Changed}
use Rattle.book_office.specs.declared.nodes.EffectiveEntry.{EffectiveEntry}
use Rattle.book_office_sync.specs.Copies.{grants, here_of_card}
use Rattle.book_office_sync.specs.Granted.{text_in, text_at, text_of, put_text, put_texts}
use Rattle.book_office_sync.specs.Reading.{above_of}
use Rattle.book_office_sync.specs.declared.reports.Above.{Above}
use Rattle.book_office_sync.specs.Sifting.{IsAboveOf}
use Rattle.book_office_sync.proofs.AppliedEntries.{texts_same}
use Rattle.book_office_sync.proofs.ChangesAfter.{after_whole}
use Rattle.book_office_sync.proofs.CopiesKept.{above, in_force, levels_with}
use Rattle.book_office_sync.proofs.ReadingLaws.{in_force_is}

abbrev none_told : {V : Type 0} → NamesTo V
none_told = empty

-- ---- what the map has after all changes of a book
module _ {V : Type 0} (says : List ℕ → V) (ab : Above) (circle : CircleOf) (leaf : Leaf) (x : Book) where
  abbrev wanted : List ℕ → Option (List ℕ)
  wanted q = text_of ab circle leaf (get x.cards q)

  abbrev at_first : NamesTo V
  at_first = none_told

  abbrev said : List ℕ → Option V
  said q = option_map says (wanted q)

  -- each name has what is kept of its text, or nothing yet
  abbrev NoneWrong : NamesTo V → Type 0
  NoneWrong m = (q : List ℕ) → (get m q ≡ None) ⊎ (get m q ≡ said q)

  kept : (m : NamesTo V) (n : List ℕ) (t : Option (List ℕ)) → wanted n ≡ t → NoneWrong m → NoneWrong (put_text says m n t)
  kept m n None is right q = right q
  kept m n (Some s) is right q =
      subst (λ r. (r ≡ None) ⊎ (r ≡ said q)) (sym (put_at m n (says s) q))
      (by_same q n (λ b. (cond b (Some (says s)) (get m q) ≡ None) ⊎ (cond b (Some (says s)) (get m q) ≡ said q))
      (λ here. inr (sym (ap (option_map says) (ap wanted here ∙ is)))) (right q))

  stays : (m : NamesTo V) (n q : List ℕ) (t : Option (List ℕ)) → wanted n ≡ t → get m q ≡ said q → get (put_text says m n t) q ≡ said q
  stays m n q None is right = right
  stays m n q (Some s) is right =
      put_at m n (says s) q ∙ by_same q n (λ b. cond b (Some (says s)) (get m q) ≡ said q) (λ here. sym (ap (option_map says) (ap wanted here ∙ is))) right

  made : (m : NamesTo V) (q : List ℕ) (t : Option (List ℕ)) → wanted q ≡ t → NoneWrong m → get (put_text says m q t) q ≡ said q
  made m q None is right = elim (right q) [ inl none ↦ none ∙ sym (ap (option_map says) is) | inr has ↦ has ]
  made m q (Some s) is right =
      put_at m q (says s) q ∙ by_names q q (λ b. cond b (Some (says s)) (get m q) ≡ said q) (λ _. sym (ap (option_map says) is)) (λ apart. absurd (apart refl))

  whole : (cs : List Change) (m : NamesTo V) → NoneWrong m → (q : List ℕ) → (get m q ≡ said q) ⊎ ((number : ℕ) × Mem (number, q) cs)
      → get (put_texts says ab circle leaf (changed_in x cs) m) q ≡ said q
  whole [] m right q (inl has) = has
  whole [] m right q (inr (number, there)) = absurd there
  whole (c ∷ cs) m right q (inl has) =
      whole cs (put_text says m c.1 (wanted c.1)) (kept m c.1 (wanted c.1) refl right) q (inl (stays m c.1 q (wanted c.1) refl has))
  whole (c ∷ cs) m right q (inr (number, inl is)) =
      let same : q ≡ c.1 = ap (λ (e : Change). e.1) is in
      whole cs (put_text says m c.1 (wanted c.1)) (kept m c.1 (wanted c.1) refl right) q
      (inl (subst (λ n. get (put_text says m n (wanted n)) q ≡ said q) same (made m q (wanted q) refl right)))
  whole (c ∷ cs) m right q (inr (number, inr more)) =
      whole cs (put_text says m c.1 (wanted c.1)) (kept m c.1 (wanted c.1) refl right) q (inr (number, more))

  positive : (n : ℕ) → 1 ≤ n → nat_lt 0 n ≡ true
  positive n h = grind (arith, nat_tests)

  all_changed : (o : Office) → IsSoundBook o x → (q : List ℕ) → get (put_texts says ab circle leaf (changed_in x (changes_after x.changes.last 0)) none_told) q ≡ said q
  all_changed o sound q = whole (changes_after x.changes.last 0) none_told (λ n. inl (get-empty name_cmp n)) q (begins (get x.cards q) refl)
    where
      begins : (card : Option StoredCard) → get x.cards q ≡ card → (get at_first q ≡ said q) ⊎ ((number : ℕ) × Mem (number, q) (changes_after x.changes.last 0))
      begins None e = inl (get-empty name_cmp q ∙ sym (ap (λ r. option_map says (text_of ab circle leaf r)) e))
      begins (Some card) e =
          where_some (get x.changes.last q) (sound.changed q card e) (λ n num.
          inr (n, after_whole x.changes.last sound.different 0 n q num (positive n (sound.within q n num).0)))

-- ---- the entries in force at a card
module _ (o : Office) (circle : CircleOf) (b : List ℕ) (x : Book) (at : get o.books b ≡ Some x) (leaf : Leaf) where
  abbrev forced : List ℕ → Option Book → Option Resource → List Entry
  forced c found r = map (λ (e : EffectiveEntry). e.entry) (effective_of (levels_with o b c found r))

  force_is : (c : List ℕ) (k : StoredCard) → get x.cards c ≡ Some k → entries_in_force o (path.Card b c) ≡ in_force (above o x) b c k.own
  force_is c k there =
      ap (λ found. forced c found (option_and_then (λ (y : Book). card_in y c) found)) at
      ∙ ap (λ card. forced c (Some x) (option_map (card_resource (number_of x c)) card)) there

  text_there : (c : List ℕ) (card : Option StoredCard) → get x.cards c ≡ card → text_of (above_of (lists_at o (path.Book b)).levels) circle leaf card
      ≡ option_and_then (λ (k : StoredCard). if grants (entries_in_force o (path.Card b c)) circle (here_of_card k) leaf then Some k.text else None) card
  text_there c None there = refl
  text_there c (Some k) there =
      ap (λ es. if grants es circle (here_of_card k) leaf then Some k.text else None) (in_force_is o circle b x at c k.own ∙ sym (force_is c k there))

module _ {V : Type 0} (says : List ℕ → V) where
  -- names that have no card add no text
  of_cards : (a : Above) (circle : CircleOf) (leaf : Leaf) (cs : List Changed) (m : NamesTo V) → put_texts says a circle leaf (filter is_of_card cs) m ≡ put_texts says a circle leaf cs m
  of_cards a circle leaf [] m = refl
  of_cards a circle leaf (c ∷ cs) m = go c.card refl (of_cards a circle leaf cs)
    where
      go : (card : Option StoredCard) → c.card ≡ card → ((n : NamesTo V) → put_texts says a circle leaf (filter is_of_card cs) n ≡ put_texts says a circle leaf cs n)
          → put_texts says a circle leaf (cond (is_some c.card) (c ∷ filter is_of_card cs) (filter is_of_card cs)) m ≡ put_texts says a circle leaf cs (put_text says m c.name (text_of a circle leaf c.card))
      go (Some k) e later =
          ap (λ r. put_texts says a circle leaf (cond (is_some r) (c ∷ filter is_of_card cs) (filter is_of_card cs)) m) e
          ∙ later (put_text says m c.name (text_of a circle leaf c.card))
      go None e later =
          ap (λ r. put_texts says a circle leaf (cond (is_some r) (c ∷ filter is_of_card cs) (filter is_of_card cs)) m) e
          ∙ later m ∙ ap (λ r. put_texts says a circle leaf cs (put_text says m c.name (text_of a circle leaf r))) (sym e)

  -- the texts of two pages are put in one after the other
  pub put_parts : (a : Above) (circle : CircleOf) (leaf : Leaf) (xs ys : List Changed) (m : NamesTo V)
      → put_texts says a circle leaf (xs ++ ys) m ≡ put_texts says a circle leaf ys (put_texts says a circle leaf xs m)
  put_parts a circle leaf [] ys m = refl
  put_parts a circle leaf (x ∷ xs) ys m = put_parts a circle leaf xs ys (put_text says m x.name (text_of a circle leaf x.card))

  -- what was read is what the definition says
  pub texts_read : (o : Office) (circle : CircleOf) (b : List ℕ) (leaf : Leaf) → IsSound o → (a : Above) (told : NamesTo V)
      → IsAboveOf circle (lists_at o (path.Book b)).levels a → told ≡ put_texts says a circle leaf (cards_after o b 0) none_told
      → (c : List ℕ) → get told c ≡ option_map says (text_at o circle b leaf c)
  texts_read o circle b leaf sound a told above_is e c = by_book (get o.books b) refl
    where
      start : get told c ≡ get (put_texts says (above_of (lists_at o (path.Book b)).levels) circle leaf (changed_after o b 0) none_told) c
      start =
          ap (λ m. get m c) (
          e ∙ texts_same circle (lists_at o (path.Book b)).levels a above_is says leaf (cards_after o b 0) none_told
          ∙ of_cards (above_of (lists_at o (path.Book b)).levels) circle leaf (changed_after o b 0) none_told)

      by_book : (found : Option Book) → get o.books b ≡ found → get told c ≡ option_map says (text_at o circle b leaf c)
      by_book None at =
          start ∙ ap (λ r. get (put_texts says (above_of (lists_at o (path.Book b)).levels) circle leaf (unwrap_or (option_map (λ (book : Book). changed_in book (changes_after book.changes.last 0)) r) []) none_told) c) at
          ∙ get-empty name_cmp c ∙ sym (ap (λ r. option_map says (option_and_then (text_in o circle b c leaf) r)) at)
      by_book (Some x) at =
          start ∙ ap (λ r. get (put_texts says (above_of (lists_at o (path.Book b)).levels) circle leaf (unwrap_or (option_map (λ (book : Book). changed_in book (changes_after book.changes.last 0)) r) []) none_told) c) at
          ∙ all_changed says (above_of (lists_at o (path.Book b)).levels) circle leaf x o (sound.books b x at).1 c
          ∙ ap (option_map says) (text_there o circle b x at leaf c (get x.cards c) refl)
          ∙ sym (ap (λ r. option_map says (option_and_then (text_in o circle b c leaf) r)) at)
