-- Maps in which a card or a book is moved in place.
use Rattle.book_office.proofs.Common.{◌≡◌, ◌≢◌, ℕ, List, not, cond, Option, Some, None, option_and_then, refl, sym, ap, ◌∙◌, get, insert, remove, NamesTo, Book, StoredCard, Office, with_book, remove_card, move_to, copy_from, card_at, unroomed, handed, same, insert_same, by_option}
use Rattle.std.proofs.Common.{is_some}
use Rattle.std.specs.Cmp.Lexicographic.{nat_list_cmp_total}
use Rattle.std.specs.FinMap.{same_map}
use Rattle.book_office_values.specs.Names.{changed_if, changed_at}
use Rattle.book_office.specs.Edits.{move_card, put_copy}
use Rattle.book_office.specs.Moving.{empty_card, roomed}
use Rattle.book_office_values.proofs.NameMapLaws.{names_apart, by_names, put_at, removed_at, undone}
use Rattle.book_office_values.proofs.OneName.{put_here, put_elsewhere, removed_elsewhere}

-- what is put twice at a name is what was put last
pub put_twice : {V : Type 0} (m : NamesTo V) (k : List ℕ) (v w : V) → insert (insert m k v) k w ≡ insert m k w
put_twice m k v w = same_map nat_list_cmp_total names_apart _ _ (λ q.
    put_at (insert m k v) k w q
    ∙ by_names q k (λ t. cond t (Some w) (get (insert m k v) q) ≡ cond t (Some w) (get m q)) (λ _. refl) (λ apart. put_elsewhere m k v q apart)
    ∙ sym (put_at m k w q))

-- what is put at two names may be put in either order
pub put_apart : {V : Type 0} (m : NamesTo V) (j k : List ℕ) (v w : V) → j ≢ k → insert (insert m j v) k w ≡ insert (insert m k w) j v
put_apart m j k v w apart = same_map nat_list_cmp_total names_apart _ _ (λ q.
    put_at (insert m j v) k w q
    ∙ ap (λ r. cond (same q k) (Some w) r) (put_at m j v q)
    ∙ by_names q k (λ t. cond t (Some w) (cond (same q j) (Some v) (get m q)) ≡ cond (same q j) (Some v) (cond t (Some w) (get m q)))
    (λ is. by_names q j (λ u. Some w ≡ cond u (Some v) (Some w)) (λ other. absurd (apart (sym other ∙ is))) (λ _. refl))
    (λ _. refl)
    ∙ sym (ap (λ r. cond (same q j) (Some v) r) (put_at m k w q))
    ∙ sym (put_at (insert m k w) j v q))

module _ (cards : NamesTo StoredCard) (c : List ℕ) where
  -- a card put where room was made is put
  pub handed_by : (card : StoredCard) (r : Option StoredCard) → get cards c ≡ r → handed card (cond (is_some r) cards (insert cards c empty_card)) c ≡ insert cards c card
  handed_by card None e = ap (changed_if (λ _. card) (insert cards c empty_card) c) (put_here cards c empty_card) ∙ put_twice cards c empty_card card
  handed_by card (Some old) e = ap (changed_if (λ _. card) cards c) e

  pub handed_roomed : (card : StoredCard) → handed card (roomed cards c) c ≡ insert cards c card
  handed_roomed card = handed_by card (get cards c) refl

  -- the same where another name was removed in between
  handed_away_by : (card : StoredCard) (from : List ℕ) → from ≢ c → (r : Option StoredCard) → get cards c ≡ r
      → handed card (remove (cond (is_some r) cards (insert cards c empty_card)) from) c ≡ insert (remove cards from) c card
  handed_away_by card from apart None e =
      ap (changed_if (λ _. card) (remove (insert cards c empty_card) from) c) (removed_elsewhere (insert cards c empty_card) from c (λ is. apart (sym is)) ∙ put_here cards c empty_card)
      ∙ same_map nat_list_cmp_total names_apart _ _ (λ q.
      put_at (remove (insert cards c empty_card) from) c card q
      ∙ by_names q c (λ t. cond t (Some card) (get (remove (insert cards c empty_card) from) q) ≡ cond t (Some card) (get (remove cards from) q)) (λ _. refl)
      (λ other. removed_at (insert cards c empty_card) from q ∙ ap (λ r. cond (same q from) None r) (put_elsewhere cards c empty_card q other) ∙ sym (removed_at cards from q))
      ∙ sym (put_at (remove cards from) c card q))
  handed_away_by card from apart (Some old) e =
      ap (changed_if (λ _. card) (remove cards from) c) (removed_elsewhere cards from c (λ is. apart (sym is)) ∙ e)

  pub handed_away : (card : StoredCard) (from : List ℕ) → from ≢ c → handed card (remove (roomed cards c) from) c ≡ insert (remove cards from) c card
  handed_away card from apart = handed_away_by card from apart (get cards c) refl

  -- room that was made and is taken back
  unroomed_by : (r : Option StoredCard) → get cards c ≡ r → unroomed (cond (is_some r) cards (insert cards c empty_card)) c (not (is_some r)) ≡ cards
  unroomed_by None e = undone cards c empty_card e
  unroomed_by (Some old) e = refl

  pub unroomed_roomed : unroomed (roomed cards c) c (not (is_some (get cards c))) ≡ cards
  unroomed_roomed = unroomed_by (get cards c) refl

  -- what stands at another name stays where room is made
  roomed_by : (q : List ℕ) → q ≢ c → (r : Option StoredCard) → get (cond (is_some r) cards (insert cards c empty_card)) q ≡ get cards q
  roomed_by q apart None = put_elsewhere cards c empty_card q apart
  roomed_by q apart (Some old) = refl

  pub roomed_elsewhere : (q : List ℕ) → q ≢ c → get (roomed cards c) q ≡ get cards q
  roomed_elsewhere q apart = roomed_by q apart (get cards c)

-- a book that is taken out, changed and put back, while another is changed
module _ (books : NamesTo Book) (from to : List ℕ) (apart : from ≢ to) (bare source : Book) (at : get books from ≡ Some source) where
  there : changed_at (λ _. bare) books from ≡ insert books from bare
  there = ap (changed_if (λ _. bare) books from) at

  pub other_book : get (changed_at (λ _. bare) books from) to ≡ get books to
  other_book = ap (λ m. get m to) there ∙ put_elsewhere books from bare to (λ is. apart (sym is))

  pub across : (new_source new_target : Book)
      → changed_at (λ _. new_source) (insert (changed_at (λ _. bare) books from) to new_target) from ≡ insert (insert books from new_source) to new_target
  across new_source new_target =
      ap (λ m. changed_at (λ _. new_source) (insert m to new_target) from) there
      ∙ ap (changed_if (λ _. new_source) (insert (insert books from bare) to new_target) from) (put_elsewhere (insert books from bare) to new_target from apart ∙ put_here books from bare)
      ∙ sym (put_apart (insert books from bare) from to new_source new_target apart)
      ∙ ap (λ m. insert m to new_target) (put_twice books from bare new_source)

  pub across_kept : (target : Book) → get books to ≡ Some target → changed_at (λ _. source) (insert (changed_at (λ _. bare) books from) to target) from ≡ books
  across_kept target beside =
      across source target
      ∙ insert_same (insert books from source) to target (put_elsewhere books from source to (λ is. apart (sym is)) ∙ beside)
      ∙ insert_same books from source at

  pub alone_kept : changed_at (λ _. source) (changed_at (λ _. bare) books from) from ≡ books
  alone_kept =
      ap (λ m. changed_at (λ _. source) m from) there
      ∙ ap (changed_if (λ _. source) (insert books from bare) from) (put_here books from bare)
      ∙ put_twice books from bare source
      ∙ insert_same books from source at

-- a map with a value changed by nothing is the map
unchanged_by : {V : Type 0} (m : NamesTo V) (k : List ℕ) (r : Option V) → get m k ≡ r → changed_if (λ v. v) m k r ≡ m
unchanged_by m k None e = refl
unchanged_by m k (Some v) e = insert_same m k v e

-- a copy of nothing changes nothing
pub copied_nothing : (o : Office) (b c : List ℕ) (owner : Option (List ℕ)) (card : Option StoredCard) → card ≡ None → with_book (copy_from card c owner) o b ≡ o
copied_nothing o b c owner card none =
    ap (λ r. with_book (copy_from r c owner) o b) none ∙ ap (λ books. record o { books = books }) (unchanged_by o.books b (get o.books b) refl)

-- the label and the text of a card, put at a name
pub copy_is : (card : Option StoredCard) (c : List ℕ) (owner : Option (List ℕ)) (label text : List ℕ) (book : Book)
    → (source : StoredCard) × (card ≡ Some source) × (label ≡ source.label) × (text ≡ source.text) → put_copy c owner label text book ≡ copy_from card c owner book
copy_is card c owner label text book h =
    (λ i. put_copy c owner (h.2 i) (h.3 i) book) ∙ sym (ap (λ r. copy_from r c owner book) h.1)

-- the card of a name in a book that is there
pub card_is : (o : Office) (b c : List ℕ) (book : Book) (card : StoredCard) → get o.books b ≡ Some book → get book.cards c ≡ Some card → card_at o b c ≡ Some card
card_is o b c book card at here = ap (option_and_then (λ (k : Book). get k.cards c)) at ∙ here

-- a card that is there stands in a book that is there
pub card_there : {P : Type 0} (o : Office) (b c : List ℕ) → card_at o b c ≢ None → ((book : Book) → get o.books b ≡ Some book → (get book.cards c ≢ None) → (card_at o b c ≡ get book.cards c) → P) → P
card_there o b c mapped go =
    by_option (get o.books b)
    (λ none. absurd (mapped (ap (option_and_then (λ (book : Book). get book.cards c)) none)))
    (λ book at. let is : card_at o b c ≡ get book.cards c = ap (option_and_then (λ (k : Book). get k.cards c)) at in go book at (λ none. mapped (is ∙ none)) is)

module _ (o : Office) (fb fc tb tc : List ℕ) (books : NamesTo Book) where
  -- a move within one book, against the definition
  pub moved_within : fb ≡ tb → card_at o fb fc ≢ None → fc ≢ tc
      → (fc ≢ tc → (old : Book) → get o.books fb ≡ Some old → get old.cards fc ≢ None → books ≡ insert o.books fb (move_to (get old.cards fc) tc (remove_card fc old)))
      → record o { books = books } ≡ move_card fb fc tb tc o
  moved_within one mapped apart h = card_there o fb fc mapped (λ old at there is.
      ap (λ m. record o { books = m }) (h apart old at there
      ∙ sym (put_twice o.books fb (remove_card fc old) (move_to (get old.cards fc) tc (remove_card fc old)))
      ∙ sym (ap (changed_if (move_to (get old.cards fc) tc) (insert o.books fb (remove_card fc old)) fb) (put_here o.books fb (remove_card fc old)))
      ∙ sym (ap (λ m. changed_at (move_to (get old.cards fc) tc) m fb) (ap (changed_if (remove_card fc) o.books fb) at))
      ∙ sym (ap (λ card. changed_at (move_to card tc) (changed_at (remove_card fc) o.books fb) fb) is))
      ∙ ap (λ b. move_card fb fc b tc o) one)

  -- a move to another book
  pub moved_across : fb ≢ tb → card_at o fb fc ≢ None → get o.books tb ≢ None
      → ((source target : Book) → get o.books fb ≡ Some source → get o.books tb ≡ Some target → get source.cards fc ≢ None
      → books ≡ insert (insert o.books fb (remove_card fc source)) tb (move_to (get source.cards fc) tc target))
      → record o { books = books } ≡ move_card fb fc tb tc o
  moved_across apart mapped beside h = card_there o fb fc mapped (λ source at there is.
      by_option (get o.books tb) (λ none. absurd (beside none)) (λ target at'.
      ap (λ m. record o { books = m }) (h source target at at' there
      ∙ sym (ap (changed_if (move_to (get source.cards fc) tc) (insert o.books fb (remove_card fc source)) tb) (put_elsewhere o.books fb (remove_card fc source) tb (λ e. apart (sym e)) ∙ at'))
      ∙ sym (ap (λ m. changed_at (move_to (get source.cards fc) tc) m tb) (ap (changed_if (remove_card fc) o.books fb) at))
      ∙ sym (ap (λ card. changed_at (move_to card tc) (changed_at (remove_card fc) o.books fb) tb) is))))
