-- Offices that agree for a caller go on to agree after an edit.
use Rattle.book_machine.proofs.Common.{◌≡◌, ◌≢◌, ◌⊎◌, inl, inr, ℕ, Bool, List, [], ◌∷◌, Option, Some, None, option_map, option_and_then, unwrap_or, refl, sym, ap, ◌∙◌, subst, nat_list_cmp_total, get, insert, same_Some, mapped, get_mapped, Caller, Entry, place_card, apply, protected_at, own_at, level_at, effective_of, effective_at, Resource, book_resource, card_resource, card_in, number_of, card_at, PutCard, RemoveCard, only, Leaf, names_apart, some_apart, NamesTo, Book, StoredCard, Office, Properties, Path, MayRead, outline_of_card, outline_of_book, Agree, here_of, owner_at}
use Rattle.std.specs.FinMap.{remove, same_map}
use Rattle.book_office.specs.Edits.{with_book, card_put, put_card, remove_card, card_copied, copy_from, copy_card, label_card, set_label, new_book}
use Rattle.book_office.specs.declared.edits.Edit.TheVariants.{AddBook}
use Rattle.book_rights.specs.Privileges.{is_read}
use Rattle.book_rights.specs.declared.privileges.Leaf.TheVariants.{ReadNames}
use Rattle.book_office_values.proofs.OneName.{by_put, by_removed, by_changed}
use Rattle.book_office_values.specs.Changes.{touched}
use Rattle.book_office_values.specs.Names.{changed_at}
use Rattle.book_office_values.specs.declared.paths.Path.TheVariants as path
use Rattle.book_machine.proofs.Outlines.{told, told_then, fused, then_fused, books_alike}
use Rattle.book_office_members.specs.Names.{name_told}
use Rattle.book_machine.specs.Agreement.{MayHave, name_in}
use Rattle.book_office_listings.specs.Verdicts.{IsGrantedBy}

-- ---- what makes a card readable: the lists from the root to it, and its owner
pub own_of_card : (c : List ℕ) (r : Option Book)
    → option_map (λ (x : Resource). x.own) (option_and_then (λ (book : Book). card_in book c) r) ≡ option_map (λ (card : StoredCard). card.own) (option_and_then (λ (book : Book). get book.cards c) r)
own_of_card c None = refl
own_of_card c (Some book) = fused (λ (x : Resource). x.own) (card_resource (number_of book c)) (get book.cards c)

owner_of_card : (c : List ℕ) (r : Option Book)
    → option_and_then (λ (x : Resource). x.owner) (option_and_then (λ (book : Book). card_in book c) r) ≡ option_and_then (λ (card : StoredCard). card.owner) (option_and_then (λ (book : Book). get book.cards c) r)
owner_of_card c None = refl
owner_of_card c (Some book) = then_fused (λ (x : Resource). x.owner) (card_resource (number_of book c)) (get book.cards c)

none_protected : (number : ℕ) (r : Option StoredCard) → unwrap_or (option_map (λ (x : Resource). x.protected) (option_map (card_resource number) r)) [] ≡ []
none_protected number None = refl
none_protected number (Some card) = refl

pub protected_of_card : (c : List ℕ) (r : Option Book) → unwrap_or (option_map (λ (x : Resource). x.protected) (option_and_then (λ (book : Book). card_in book c) r)) [] ≡ []
protected_of_card c None = refl
protected_of_card c (Some book) = none_protected (number_of book c) (get book.cards c)

-- the lists that stand at a book
abbrev pub lists_of : Book → List Entry × List Entry
lists_of book = (book.properties.protected, book.properties.own)

abbrev pub lists_in : NamesTo Book → List ℕ → Option (List Entry × List Entry)
lists_in books b = option_map lists_of (get books b)

abbrev pub card_in_books : NamesTo Book → List ℕ → List ℕ → Option StoredCard
card_in_books books b c = option_and_then (λ (book : Book). get book.cards c) (get books b)

-- a card whose book has the same lists, and whose own outline is the same, is readable as before
module _ (o : Office) (m : NamesTo Book) (b c : List ℕ) (lists : lists_in m b ≡ lists_in o.books b) (card : option_map outline_of_card (card_in_books m b c) ≡ option_map outline_of_card (card_at o b c)) where
  abbrev after : Office
  after = record o { books = m }

  own_kept : own_at after (path.Card b c) ≡ own_at o (path.Card b c)
  own_kept = ap (λ r. unwrap_or r []) (own_of_card c (get m b) ∙ told outline_of_card (λ (x : StoredCard). x.own) (card_in_books m b c) (card_at o b c) card ∙ sym (own_of_card c (get o.books b)))

  protected_kept : protected_at after (path.Card b c) ≡ protected_at o (path.Card b c)
  protected_kept = protected_of_card c (get m b) ∙ sym (protected_of_card c (get o.books b))

  book_level : level_at after (path.Book b) ≡ level_at o (path.Book b)
  book_level =
      let protected : protected_at after (path.Book b) ≡ protected_at o (path.Book b) =
      ap (λ r. unwrap_or r []) (fused_book (λ (x : Resource). x.protected) (get m b) ∙ told lists_of (λ l. l.0) (get m b) (get o.books b) lists ∙ sym (fused_book (λ (x : Resource). x.protected) (get o.books b))) in
      let own : own_at after (path.Book b) ≡ own_at o (path.Book b) =
      ap (λ r. unwrap_or r []) (fused_book (λ (x : Resource). x.own) (get m b) ∙ told lists_of (λ l. l.1) (get m b) (get o.books b) lists ∙ sym (fused_book (λ (x : Resource). x.own) (get o.books b))) in
      λ i. record { path = path.Book b; protected = protected i; own = own i }
    where
      fused_book : {A : Type 0} (read : Resource → A) (r : Option Book) → option_map read (option_map book_resource r) ≡ option_map (λ book. read (book_resource book)) r
      fused_book read r = fused read book_resource r

  pub effective_kept : effective_at after (path.Card b c) ≡ effective_at o (path.Card b c)
  effective_kept = λ i. effective_of (
      record { path = path.Card b c; protected = protected_kept i; own = own_kept i }
      ∷ book_level i ∷ level_at o path.Books ∷ level_at o path.Root ∷ [])

  pub here_kept : here_of after (path.Card b c) ≡ here_of o (path.Card b c)
  here_kept =
      let owner : owner_at after (path.Card b c) ≡ owner_at o (path.Card b c) =
      owner_of_card c (get m b) ∙ told_then outline_of_card (λ (x : StoredCard). x.owner) (card_in_books m b c) (card_at o b c) card ∙ sym (owner_of_card c (get o.books b)) in
      λ i. record { owner = owner i; principal = None }

  may_before : (caller : Caller) (set : Leaf → Bool) → MayHave after caller (path.Card b c) set → MayHave o caller (path.Card b c) set
  may_before caller set may = record {
    circle = may.circle;
    is_circle = may.is_circle;
    granted = subst (λ here. IsGrantedBy (effective_at o (path.Card b c)) may.circle here set) here_kept
        (subst (λ list. IsGrantedBy list may.circle (here_of after (path.Card b c)) set) effective_kept may.granted);
  }

-- ---- books that change alike
-- one book changed in each: what is made of books with one outline has one outline, and each of its cards is alike
pub record ChangesAlike (f g : Book → Book) : Type 0 where
  pub outlines : (x y : Book) → outline_of_book x ≡ outline_of_book y → outline_of_book (f x) ≡ outline_of_book (g y)
  pub lists : (x : Book) → lists_of (f x) ≡ lists_of x
  pub cards : (x y : Book) → outline_of_book x ≡ outline_of_book y → (c : List ℕ)
      → (get (f x).cards c ≡ get (g y).cards c)
      ⊎ ((option_map outline_of_card (get (f x).cards c) ≡ option_map outline_of_card (get x.cards c))
      × (get x.cards c ≡ get y.cards c → get (f x).cards c ≡ get (g y).cards c)
      × (name_in (get x.cards c) ≡ name_in (get y.cards c) → name_in (get (f x).cards c) ≡ name_in (get (g y).cards c)))

-- what stands at a name where something was put, removed or changed
module _ {V : Type 0} (m : NamesTo V) (k q : List ℕ) where
  pub put_cases : (v : V) → ((q ≡ k) × (get (insert m k v) q ≡ Some v)) ⊎ ((q ≢ k) × (get (insert m k v) q ≡ get m q))
  put_cases v = by_put m k v q (λ r. ((q ≡ k) × (r ≡ Some v)) ⊎ ((q ≢ k) × (r ≡ get m q))) (λ is. inl (is, refl)) (λ apart. inr (apart, refl))

  pub removed_cases : ((q ≡ k) × (get (remove m k) q ≡ None)) ⊎ ((q ≢ k) × (get (remove m k) q ≡ get m q))
  removed_cases = by_removed m k q (λ r. ((q ≡ k) × (r ≡ None)) ⊎ ((q ≢ k) × (r ≡ get m q))) (λ is. inl (is, refl)) (λ apart. inr (apart, refl))

  pub changed_cases : (h : V → V) → ((q ≡ k) × (get (changed_at h m k) q ≡ option_map h (get m q))) ⊎ ((q ≢ k) × (get (changed_at h m k) q ≡ get m q))
  changed_cases h = by_changed m k h q (λ r. ((q ≡ k) × (r ≡ option_map h (get m q))) ⊎ ((q ≢ k) × (r ≡ get m q))) (λ is. inl (is, refl)) (λ apart. inr (apart, refl))

abbrev outlines_of_cards : NamesTo StoredCard → NamesTo StoredCard
outlines_of_cards cards = mapped (λ _ card. outline_of_card card) cards

-- the cards of books with one outline
pub cards_in : (x y : Book) → outline_of_book x ≡ outline_of_book y → (c : List ℕ) → option_map outline_of_card (get x.cards c) ≡ option_map outline_of_card (get y.cards c)
cards_in x y e c = sym (get_mapped (λ _ card. outline_of_card card) x.cards c) ∙ ap (λ (book : Book). get book.cards c) e ∙ get_mapped (λ _ card. outline_of_card card) y.cards c

same_outlines : (m n : NamesTo StoredCard) → ((q : List ℕ) → option_map outline_of_card (get m q) ≡ option_map outline_of_card (get n q)) → outlines_of_cards m ≡ outlines_of_cards n
same_outlines m n h = same_map nat_list_cmp_total names_apart (outlines_of_cards m) (outlines_of_cards n) (λ q.
    get_mapped (λ _ card. outline_of_card card) m q ∙ h q ∙ sym (get_mapped (λ _ card. outline_of_card card) n q))

-- a card that is put at one name of books with one outline
pub place_outline : (x y : Book) (c : List ℕ) (k l : StoredCard) → outline_of_book x ≡ outline_of_book y → outline_of_card k ≡ outline_of_card l
    → outline_of_book (place_card x c k) ≡ outline_of_book (place_card y c l)
place_outline x y c k l e same =
    let cards = same_outlines (insert x.cards c k) (insert y.cards c l) (λ q. elim (put_cases x.cards c q k) [
      | inl here ↦ elim (put_cases y.cards c q l) [
        | inl there ↦ ap (option_map outline_of_card) here.1 ∙ ap Some same ∙ sym (ap (option_map outline_of_card) there.1)
        | inr apart ↦ absurd (apart.0 here.0)
      ]
      | inr away ↦ elim (put_cases y.cards c q l) [
        | inl there ↦ absurd (away.0 there.0)
        | inr apart ↦ ap (option_map outline_of_card) away.1 ∙ cards_in x y e q ∙ sym (ap (option_map outline_of_card) apart.1)
      ]
    ]) in
    λ i. record { properties = (e i).properties; cards = cards i; changes = touched (e i).changes c }

-- what is put is equal in both; or it has the owner and the own list of what was there, and is equal where that was
abbrev IsPutAlike : Option StoredCard → Option StoredCard → StoredCard → StoredCard → Type 0
IsPutAlike r s k l = (k ≡ l) ⊎ ((Some (outline_of_card k) ≡ option_map outline_of_card r) × (r ≡ s → k ≡ l) × (name_in r ≡ name_in s → name_told k.text ≡ name_told l.text))

placed_card : (x y : Book) (c : List ℕ) (k l : StoredCard) → IsPutAlike (get x.cards c) (get y.cards c) k l → (q : List ℕ)
    → (get (place_card x c k).cards q ≡ get (place_card y c l).cards q)
    ⊎ ((option_map outline_of_card (get (place_card x c k).cards q) ≡ option_map outline_of_card (get x.cards q))
    × (get x.cards q ≡ get y.cards q → get (place_card x c k).cards q ≡ get (place_card y c l).cards q)
    × (name_in (get x.cards q) ≡ name_in (get y.cards q) → name_in (get (place_card x c k).cards q) ≡ name_in (get (place_card y c l).cards q)))
placed_card x y c k l put q = elim (put_cases x.cards c q k) [
  | inl here ↦ elim (put_cases y.cards c q l) [
    | inl there ↦ elim put [
      | inl same ↦ inl (here.1 ∙ ap Some same ∙ sym there.1)
      | inr kept ↦ inr (
        ap (option_map outline_of_card) here.1 ∙ kept.0 ∙ ap (λ n. option_map outline_of_card (get x.cards n)) (sym here.0),
        λ is. here.1 ∙ ap Some (kept.1 (ap (get x.cards) (sym here.0) ∙ is ∙ ap (get y.cards) here.0)) ∙ sym there.1,
        λ is. ap name_in here.1 ∙ kept.2 (ap (λ n. name_in (get x.cards n)) (sym here.0) ∙ is ∙ ap (λ n. name_in (get y.cards n)) here.0) ∙ sym (ap name_in there.1),
      )
    ]
    | inr apart ↦ absurd (apart.0 here.0)
  ]
  | inr away ↦ elim (put_cases y.cards c q l) [
    | inl there ↦ absurd (away.0 there.0)
    | inr apart ↦ inr (ap (option_map outline_of_card) away.1, λ is. away.1 ∙ is ∙ sym apart.1, λ is. ap name_in away.1 ∙ is ∙ sym (ap name_in apart.1))
  ]
]

module _ (c : List ℕ) (owner : Option (List ℕ)) where
  module _ (text : List ℕ) where
    put_alike : (r s : Option StoredCard) → option_map outline_of_card r ≡ option_map outline_of_card s → IsPutAlike r s (card_put r owner text) (card_put s owner text)
    put_alike None None e = inl refl
    put_alike None (Some y) e = some_apart (sym e)
    put_alike (Some x) None e = some_apart e
    put_alike (Some x) (Some y) e = inr (refl, λ is. ap (λ r. card_put r owner text) is, λ is. refl)

    put_outline : (r s : Option StoredCard) → option_map outline_of_card r ≡ option_map outline_of_card s → outline_of_card (card_put r owner text) ≡ outline_of_card (card_put s owner text)
    put_outline None None e = refl
    put_outline None (Some y) e = some_apart (sym e)
    put_outline (Some x) None e = some_apart e
    put_outline (Some x) (Some y) e = same_Some _ _ e

    -- PUT
    pub puts_alike : ChangesAlike (put_card c owner text) (put_card c owner text)
    puts_alike = record {
      outlines = λ x y e. place_outline x y c _ _ e (put_outline (get x.cards c) (get y.cards c) (cards_in x y e c));
      lists = λ x. refl;
      cards = λ x y e q. placed_card x y c _ _ (put_alike (get x.cards c) (get y.cards c) (cards_in x y e c)) q;
    }

  module _ (source : StoredCard) where
    copied_same : (r s : Option StoredCard) → option_map outline_of_card r ≡ option_map outline_of_card s → card_copied r owner source.label source.text ≡ card_copied s owner source.label source.text
    copied_same None None e = refl
    copied_same None (Some y) e = some_apart (sym e)
    copied_same (Some x) None e = some_apart e
    copied_same (Some x) (Some y) e =
        let same : outline_of_card x ≡ outline_of_card y = same_Some _ _ e in
        λ i. record (same i) { label = source.label; text = source.text }

  -- COPY of one card
  pub copies_alike : (source : Option StoredCard) → ChangesAlike (copy_from source c owner) (copy_from source c owner)
  copies_alike None = record { outlines = λ x y e. e; lists = λ x. refl; cards = λ x y e q. inr (refl, λ is. is, λ is. is) }
  copies_alike (Some source) = record {
    outlines = λ x y e. place_outline x y c _ _ e (ap outline_of_card (copied_same source (get x.cards c) (get y.cards c) (cards_in x y e c)));
    lists = λ x. refl;
    cards = λ x y e q. placed_card x y c _ _ (inl (copied_same source (get x.cards c) (get y.cards c) (cards_in x y e c))) q;
  }

module _ (c : List ℕ) where
  -- DELETE of a card
  pub removals_alike : ChangesAlike (remove_card c) (remove_card c)
  removals_alike = record {
    outlines = λ x y e.
        let cards = same_outlines (remove x.cards c) (remove y.cards c) (λ q. elim (removed_cases x.cards c q) [
          | inl here ↦ elim (removed_cases y.cards c q) [
            | inl there ↦ ap (option_map outline_of_card) here.1 ∙ sym (ap (option_map outline_of_card) there.1)
            | inr apart ↦ absurd (apart.0 here.0)
          ]
          | inr away ↦ elim (removed_cases y.cards c q) [
            | inl there ↦ absurd (away.0 there.0)
            | inr apart ↦ ap (option_map outline_of_card) away.1 ∙ cards_in x y e q ∙ sym (ap (option_map outline_of_card) apart.1)
          ]
        ]) in
        λ i. record { properties = (e i).properties; cards = cards i; changes = touched (e i).changes c };
    lists = λ x. refl;
    cards = λ x y e q. elim (removed_cases x.cards c q) [
      | inl here ↦ elim (removed_cases y.cards c q) [
        | inl there ↦ inl (here.1 ∙ sym there.1)
        | inr apart ↦ absurd (apart.0 here.0)
      ]
      | inr away ↦ elim (removed_cases y.cards c q) [
        | inl there ↦ absurd (away.0 there.0)
        | inr apart ↦ inr (ap (option_map outline_of_card) away.1, λ is. away.1 ∙ is ∙ sym apart.1, λ is. ap name_in away.1 ∙ is ∙ sym (ap name_in apart.1))
      ]
    ];
  }

  module _ (label : List ℕ) where
    label_outline : (x y : Book) → outline_of_book x ≡ outline_of_book y → (r s : Option StoredCard) → option_map outline_of_card r ≡ option_map outline_of_card s
        → outline_of_book (label_card c label r x) ≡ outline_of_book (label_card c label s y)
    label_outline x y e None None same = e
    label_outline x y e None (Some l) same = some_apart (sym same)
    label_outline x y e (Some k) None same = some_apart same
    label_outline x y e (Some k) (Some l) same = place_outline x y c _ _ e (same_Some _ _ same)

    label_lists : (x : Book) (r : Option StoredCard) → lists_of (label_card c label r x) ≡ lists_of x
    label_lists x None = refl
    label_lists x (Some k) = refl

    labelled_card : (x y : Book) (r s : Option StoredCard) → get x.cards c ≡ r → get y.cards c ≡ s → option_map outline_of_card r ≡ option_map outline_of_card s → (q : List ℕ)
        → (get (label_card c label r x).cards q ≡ get (label_card c label s y).cards q)
        ⊎ ((option_map outline_of_card (get (label_card c label r x).cards q) ≡ option_map outline_of_card (get x.cards q))
        × (get x.cards q ≡ get y.cards q → get (label_card c label r x).cards q ≡ get (label_card c label s y).cards q)
        × (name_in (get x.cards q) ≡ name_in (get y.cards q) → name_in (get (label_card c label r x).cards q) ≡ name_in (get (label_card c label s y).cards q)))
    labelled_card x y None None r_is s_is same q = inr (refl, λ is. is, λ is. is)
    labelled_card x y None (Some l) r_is s_is same q = some_apart (sym same)
    labelled_card x y (Some k) None r_is s_is same q = some_apart same
    labelled_card x y (Some k) (Some l) r_is s_is same q = placed_card x y c _ _ (inr (
      ap (option_map outline_of_card) (sym r_is),
      λ is. let cards : k ≡ l = same_Some _ _ (sym r_is ∙ is ∙ s_is) in ap (λ (z : StoredCard). record z { label = label }) cards,
      λ is. sym (ap name_in r_is) ∙ is ∙ ap name_in s_is,
    )) q

    -- PROPPATCH of a card's displayname
    pub labels_alike : ChangesAlike (λ book. label_card c label (get book.cards c) book) (λ book. label_card c label (get book.cards c) book)
    labels_alike = record {
      outlines = λ x y e. label_outline x y e (get x.cards c) (get y.cards c) (cards_in x y e c);
      lists = λ x. label_lists x (get x.cards c);
      cards = λ x y e q. labelled_card x y (get x.cards c) (get y.cards c) refl refl (cards_in x y e c) q;
    }

abbrev relabelled : List ℕ → Book → Book
relabelled label book = record book { properties = record book.properties { label = label } }

-- ---- Offices with other books
-- a card after an edit is equal in both Offices; or it is readable as before, and equal where it was
pub record StaysAlike (o p : Office) (m n : NamesTo Book) (b c : List ℕ) : Type 0 where
  lists : lists_in m b ≡ lists_in o.books b
  card : option_map outline_of_card (card_in_books m b c) ≡ option_map outline_of_card (card_at o b c)
  same : card_at o b c ≡ card_at p b c → card_in_books m b c ≡ card_in_books n b c
  named : name_in (card_at o b c) ≡ name_in (card_at p b c) → name_in (card_in_books m b c) ≡ name_in (card_in_books n b c)

abbrev IsAlike : Office → Office → NamesTo Book → NamesTo Book → List ℕ → List ℕ → Type 0
IsAlike o p m n b c = (card_in_books m b c ≡ card_in_books n b c) ⊎ StaysAlike o p m n b c

abbrev outlines_of : NamesTo Book → NamesTo Book
outlines_of books = mapped (λ _ book. outline_of_book book) books

module _ (o p : Office) (caller : Caller) (agree : Agree o p caller) where
  with_books_agree : (m n : NamesTo Book) → ((q : List ℕ) → option_map outline_of_book (get m q) ≡ option_map outline_of_book (get n q))
      → ((b c : List ℕ) → IsAlike o p m n b c) → Agree (record o { books = m }) (record p { books = n }) caller
  with_books_agree m n alike cards =
      let books : outlines_of m ≡ outlines_of n = same_map nat_list_cmp_total names_apart (outlines_of m) (outlines_of n) (λ q.
      get_mapped (λ _ book. outline_of_book book) m q ∙ alike q ∙ sym (get_mapped (λ _ book. outline_of_book book) n q)) in
      record {
        outlines = λ i. record (agree.outlines i) { books = books i };
        readable = λ b c may. elim (cards b c) [
          | inl same ↦ same
          | inr kept ↦ kept.same (agree.readable b c (may_before o m b c kept.lists kept.card caller is_read may))
        ];
        named = λ b c may. elim (cards b c) [
          | inl same ↦ ap name_in same
          | inr kept ↦ kept.named (agree.named b c (may_before o m b c kept.lists kept.card caller (only ReadNames) may))
        ];
      }

  -- a book that stays in both Offices
  stays : (m n : NamesTo Book) (b c : List ℕ) → get m b ≡ get o.books b → get n b ≡ get p.books b → IsAlike o p m n b c
  stays m n b c here there = inr (record {
    lists = ap (option_map lists_of) here;
    card = ap (λ r. option_map outline_of_card (option_and_then (λ (book : Book). get book.cards c) r)) here;
    same = λ is. ap (option_and_then (λ (book : Book). get book.cards c)) here ∙ is ∙ sym (ap (option_and_then (λ (book : Book). get book.cards c)) there);
    named = λ is. ap (λ r. name_in (option_and_then (λ (book : Book). get book.cards c) r)) here ∙ is ∙ sym (ap (λ r. name_in (option_and_then (λ (book : Book). get book.cards c) r)) there);
  })

  module _ (b : List ℕ) (f g : Book → Book) (change : ChangesAlike f g) where
    made_alike : (r s : Option Book) → option_map outline_of_book r ≡ option_map outline_of_book s
        → option_map outline_of_book (option_map f r) ≡ option_map outline_of_book (option_map g s)
    made_alike None None e = refl
    made_alike None (Some y) e = some_apart (sym e)
    made_alike (Some x) None e = some_apart e
    made_alike (Some x) (Some y) e = ap Some (change.outlines x y (same_Some _ _ e))

    -- the card of a changed book, by what the book was
    card_made : (m n : NamesTo Book) (q c : List ℕ) (r s : Option Book) → get o.books q ≡ r → get p.books q ≡ s
        → option_map outline_of_book r ≡ option_map outline_of_book s → get m q ≡ option_map f r → get n q ≡ option_map g s
        → IsAlike o p m n q c
    card_made m n q c None None r_is s_is e m_is n_is = inl (ap (option_and_then (λ (book : Book). get book.cards c)) (m_is ∙ sym n_is))
    card_made m n q c None (Some y) r_is s_is e m_is n_is = some_apart (sym e)
    card_made m n q c (Some x) None r_is s_is e m_is n_is = some_apart e
    card_made m n q c (Some x) (Some y) r_is s_is e m_is n_is =
        let in_m : card_in_books m q c ≡ get (f x).cards c = ap (option_and_then (λ (book : Book). get book.cards c)) m_is in
        let in_n : card_in_books n q c ≡ get (g y).cards c = ap (option_and_then (λ (book : Book). get book.cards c)) n_is in
        let in_o : card_at o q c ≡ get x.cards c = ap (option_and_then (λ (book : Book). get book.cards c)) r_is in
        let in_p : card_at p q c ≡ get y.cards c = ap (option_and_then (λ (book : Book). get book.cards c)) s_is in
        elim (change.cards x y (same_Some _ _ e) c) [
          | inl same ↦ inl (in_m ∙ same ∙ sym in_n)
          | inr kept ↦ inr (record {
            lists = ap (option_map lists_of) m_is ∙ ap Some (change.lists x) ∙ sym (ap (option_map lists_of) r_is);
            card = ap (option_map outline_of_card) in_m ∙ kept.0 ∙ sym (ap (option_map outline_of_card) in_o);
            same = λ is. in_m ∙ kept.1 (sym in_o ∙ is ∙ in_p) ∙ sym in_n;
            named = λ is. ap name_in in_m ∙ kept.2 (sym (ap name_in in_o) ∙ is ∙ ap name_in in_p) ∙ sym (ap name_in in_n);
          })
        ]

    pub one_book_agrees : Agree (with_book f o b) (with_book g p b) caller
    one_book_agrees =
        with_books_agree (changed_at f o.books b) (changed_at g p.books b)
        (λ q. elim (changed_cases o.books b q f) [
          | inl here ↦ elim (changed_cases p.books b q g) [
            | inl there ↦
                ap (option_map outline_of_book) here.1 ∙ made_alike (get o.books q) (get p.books q) (books_alike o p agree.outlines q)
                ∙ sym (ap (option_map outline_of_book) there.1)
            | inr apart ↦ absurd (apart.0 here.0)
          ]
          | inr away ↦ elim (changed_cases p.books b q g) [
            | inl there ↦ absurd (away.0 there.0)
            | inr apart ↦ ap (option_map outline_of_book) away.1 ∙ books_alike o p agree.outlines q ∙ sym (ap (option_map outline_of_book) apart.1)
          ]
        ])
        (λ q c. elim (changed_cases o.books b q f) [
          | inl here ↦ elim (changed_cases p.books b q g) [
            | inl there ↦ card_made (changed_at f o.books b) (changed_at g p.books b) q c (get o.books q) (get p.books q) refl refl (books_alike o p agree.outlines q) here.1 there.1
            | inr apart ↦ absurd (apart.0 here.0)
          ]
          | inr away ↦ elim (changed_cases p.books b q g) [
            | inl there ↦ absurd (away.0 there.0)
            | inr apart ↦ stays (changed_at f o.books b) (changed_at g p.books b) q c away.1 apart.1
          ]
        ])

  -- a book that is put in both
  pub new_books_agree : (b : List ℕ) (book : Book) → Agree (record o { books = insert o.books b book }) (record p { books = insert p.books b book }) caller
  new_books_agree b book = with_books_agree (insert o.books b book) (insert p.books b book)
      (λ q. elim (put_cases o.books b q book) [
        | inl here ↦ elim (put_cases p.books b q book) [
          | inl there ↦ ap (option_map outline_of_book) (here.1 ∙ sym there.1)
          | inr apart ↦ absurd (apart.0 here.0)
        ]
        | inr away ↦ elim (put_cases p.books b q book) [
          | inl there ↦ absurd (away.0 there.0)
          | inr apart ↦ ap (option_map outline_of_book) away.1 ∙ books_alike o p agree.outlines q ∙ sym (ap (option_map outline_of_book) apart.1)
        ]
      ])
      (λ q c. elim (put_cases o.books b q book) [
        | inl here ↦ elim (put_cases p.books b q book) [
          | inl there ↦ inl (ap (option_and_then (λ (x : Book). get x.cards c)) (here.1 ∙ sym there.1))
          | inr apart ↦ absurd (apart.0 here.0)
        ]
        | inr away ↦ elim (put_cases p.books b q book) [
          | inl there ↦ absurd (away.0 there.0)
          | inr apart ↦ stays (insert o.books b book) (insert p.books b book) q c away.1 apart.1
        ]
      ])

  -- the edits that a request makes without a rise of the epoch
  pub put_agrees : (b c : List ℕ) (owner : Option (List ℕ)) (text : List ℕ) → Agree (apply o (PutCard b c owner text)) (apply p (PutCard b c owner text)) caller
  put_agrees b c owner text = one_book_agrees b (put_card c owner text) (put_card c owner text) (puts_alike c owner text)

  pub removal_agrees : (b c : List ℕ) → Agree (apply o (RemoveCard b c)) (apply p (RemoveCard b c)) caller
  removal_agrees b c = one_book_agrees b (remove_card c) (remove_card c) (removals_alike c)

  pub addition_agrees : (b : List ℕ) (owner : Option (List ℕ)) → Agree (apply o (AddBook b owner)) (apply p (AddBook b owner)) caller
  addition_agrees b owner = new_books_agree b (new_book owner)

  -- COPY of a card that the caller may read, and PROPPATCH of a displayname
  pub copy_agrees : (from_book from_card to_book to_card : List ℕ) (owner : Option (List ℕ)) → MayRead o caller (path.Card from_book from_card)
      → Agree (copy_card from_book from_card to_book to_card owner o) (copy_card from_book from_card to_book to_card owner p) caller
  copy_agrees from_book from_card to_book to_card owner may =
      let source : card_at o from_book from_card ≡ card_at p from_book from_card = agree.readable from_book from_card may in
      one_book_agrees to_book (copy_from (card_at o from_book from_card) to_card owner) (copy_from (card_at p from_book from_card) to_card owner)
      (subst (λ s. ChangesAlike (copy_from (card_at o from_book from_card) to_card owner) (copy_from s to_card owner)) source
      (copies_alike to_card owner (card_at o from_book from_card)))

  pub label_agrees : (q : Path) (label : List ℕ) → Agree (set_label q label o) (set_label q label p) caller
  label_agrees path.Root label = record {
    outlines = λ i. record (agree.outlines i) { root = record (agree.outlines i).root { label = label } };
    readable = λ b c may. agree.readable b c (record { circle = may.circle; is_circle = may.is_circle; granted = may.granted });
    named = λ b c may. agree.named b c (record { circle = may.circle; is_circle = may.is_circle; granted = may.granted });
  }
  label_agrees path.People label = record {
    outlines = λ i. record (agree.outlines i) { people = record (agree.outlines i).people { label = label } };
    readable = λ b c may. agree.readable b c (record { circle = may.circle; is_circle = may.is_circle; granted = may.granted });
    named = λ b c may. agree.named b c (record { circle = may.circle; is_circle = may.is_circle; granted = may.granted });
  }
  label_agrees path.Groups label = record {
    outlines = λ i. record (agree.outlines i) { groups_home = record (agree.outlines i).groups_home { label = label } };
    readable = λ b c may. agree.readable b c (record { circle = may.circle; is_circle = may.is_circle; granted = may.granted });
    named = λ b c may. agree.named b c (record { circle = may.circle; is_circle = may.is_circle; granted = may.granted });
  }
  label_agrees path.Books label = record {
    outlines = λ i. record (agree.outlines i) { books_home = record (agree.outlines i).books_home { label = label } };
    readable = λ b c may. agree.readable b c (record { circle = may.circle; is_circle = may.is_circle; granted = may.granted });
    named = λ b c may. agree.named b c (record { circle = may.circle; is_circle = may.is_circle; granted = may.granted });
  }
  label_agrees (path.Person n) label = record {
    outlines = λ i. record (agree.outlines i) { persons = changed_at (λ (properties : Properties). record properties { label = label }) (agree.outlines i).persons n };
    readable = λ b c may. agree.readable b c (record { circle = may.circle; is_circle = may.is_circle; granted = may.granted });
    named = λ b c may. agree.named b c (record { circle = may.circle; is_circle = may.is_circle; granted = may.granted });
  }
  label_agrees (path.Group n) label = record {
    outlines = λ i. record (agree.outlines i) { groups = changed_at (λ (properties : Properties). record properties { label = label }) (agree.outlines i).groups n };
    readable = λ b c may. agree.readable b c (record { circle = may.circle; is_circle = may.is_circle; granted = may.granted });
    named = λ b c may. agree.named b c (record { circle = may.circle; is_circle = may.is_circle; granted = may.granted });
  }
  label_agrees (path.Book b) label = one_book_agrees b (relabelled label) (relabelled label) (record {
    outlines = λ x y e. ap (relabelled label) e;
    lists = λ x. refl;
    cards = λ x y e c. inr (refl, λ is. is, λ is. is);
  })
  label_agrees (path.Card b c) label = one_book_agrees b _ _ (labels_alike c label)
