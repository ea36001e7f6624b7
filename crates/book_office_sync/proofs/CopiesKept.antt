-- What a copy agrees on stays so while the epoch stays.
use Rattle.book_office_sync.proofs.Common.{◌≡◌, ℕ, ◌<◌, ◌≤◌, ◌⊎◌, inl, inr, List, [], ◌∷◌, map, Bool, true, false, cond, Option, Some, None, refl, sym, ap, ◌∙◌, subst, option_map, option_and_then, unwrap_or, arith, if◌then◌else◌, get, CircleOf, Level, NamesTo, Book, StoredCard, Office, number_of, Seen, seen, shown, last_change, Right, Kept, Later}
use Rattle.std.proofs.Common.{◌≢◌, ◌+◌}
use Rattle.std.specs.FinMap.{insert}
use Rattle.book_lists.specs.declared.entries.Entry.{Entry}
use Rattle.book_office_values.specs.Changes.{touched}
use Rattle.book_office_values.specs.declared.collections.changes.Numbers.{Numbers}
use Rattle.book_policy_values.specs.declared.parts.PolicyTables.{PolicyTables}
use Rattle.book_office_values.specs.declared.offices.Properties.{Properties}
use Rattle.book_office_values.specs.declared.paths.Path.{Path}
use Rattle.book_office_values.specs.declared.paths.Path.TheVariants as path
use Rattle.book_office_adopting.specs.Adopting.{taken_over}
use Rattle.book_office_adopting.specs.Sameness.{same_office}
use Rattle.book_office_adopting.proofs.Samenesses.{same_office_is}
use Rattle.book_office.specs.declared.edits.Edit.{Edit}
use Rattle.book_office.specs.declared.edits.Edit.TheVariants.{PutCard, RemoveCard, CopyCard, MoveCard, AddBook, RemoveBook, SetLabel, SetList, SetMembers, Adopt}
use Rattle.book_office.specs.declared.nodes.EffectiveEntry.{EffectiveEntry}
use Rattle.book_office.specs.Edits.{apply, with_book, place_card, put_card, remove_card, card_put, copy_from, card_copied, move_to, new_book, label_card, set_label}
use Rattle.book_office.specs.Levels.{effective_of}
use Rattle.book_office.specs.Resources.{Resource, card_at, card_in, card_resource, book_resource}
use Rattle.book_office.specs.Sound.{IsPossible}
use Rattle.book_office_values.proofs.NameMapLaws.{by_names}
use Rattle.book_office_values.proofs.OneName.{some_apart, by_changed, by_put, put_here, put_elsewhere, removed_elsewhere}
use Rattle.book_office_sync.specs.Copies.{grants_read, here_of_card, KeptBook}
use Rattle.book_office.proofs.Epochs.{label_leaves_epoch}

-- the lists above a card
pub record ListsAbove : Type 0 where
  pub root_protected : List Entry
  pub root_own : List Entry
  pub home_protected : List Entry
  pub home_own : List Entry
  pub book_protected : List Entry
  pub book_own : List Entry

abbrev pub above : Office → Book → ListsAbove
above o x = record {
  root_protected = o.root.protected;
  root_own = o.root.own;
  home_protected = o.books_home.protected;
  home_own = o.books_home.own;
  book_protected = x.properties.protected;
  book_own = x.properties.own;
}

-- the entries in force at a card, by the lists above it and its own
abbrev pub in_force : ListsAbove → List ℕ → List ℕ → List Entry → List Entry
in_force a b c own = map (λ (e : EffectiveEntry). e.entry) (effective_of (
    record { path = path.Card b c; protected = []; own = own }
    ∷ record { path = path.Book b; protected = a.book_protected; own = a.book_own }
    ∷ record { path = path.Books; protected = a.home_protected; own = a.home_own }
    ∷ record { path = path.Root; protected = a.root_protected; own = a.root_own } ∷ []))

-- what is seen of a card, by these lists
abbrev pub seen_by : ListsAbove → CircleOf → List ℕ → List ℕ → ℕ → Option StoredCard → Option Seen
seen_by a circle b c n card = option_and_then (λ (k : StoredCard). if grants_read (in_force a b c k.own) circle (here_of_card k) then Some (shown n k) else None) card

-- the levels above a card, with the book and the card given
abbrev pub levels_with : Office → List ℕ → List ℕ → Option Book → Option Resource → List Level
levels_with o b c book r =
    record { path = path.Card b c; protected = unwrap_or (option_map (λ (r : Resource). r.protected) r) []; own = unwrap_or (option_map (λ (r : Resource). r.own) r) [] }
    ∷ record {
      path = path.Book b;
      protected = unwrap_or (option_map (λ (r : Resource). r.protected) (option_map book_resource book)) [];
      own = unwrap_or (option_map (λ (r : Resource). r.own) (option_map book_resource book)) [];
    }
    ∷ record { path = path.Books; protected = o.books_home.protected; own = o.books_home.own }
    ∷ record { path = path.Root; protected = o.root.protected; own = o.root.own } ∷ []

abbrev seen_of : Office → CircleOf → List ℕ → List ℕ → Option Book → Option Seen
seen_of o circle b c found = option_and_then (λ (book : Book). option_and_then (λ (card : StoredCard).
    if grants_read (map (λ (e : EffectiveEntry). e.entry) (effective_of (levels_with o b c found (option_and_then (λ (x : Book). card_in x c) found)))) circle (here_of_card card)
    then Some (shown (number_of book c) card) else None) (get book.cards c)) found

module _ (o : Office) (circle : CircleOf) (b c : List ℕ) where
  seen_is : seen o circle b c ≡ seen_of o circle b c (get o.books b)
  seen_is = refl

  card_seen : (x : Book) (n : ℕ) (card : Option StoredCard) → option_and_then (λ (k : StoredCard).
      if grants_read (map (λ (e : EffectiveEntry). e.entry) (effective_of (levels_with o b c (Some x) (option_map (card_resource n) card)))) circle (here_of_card k)
      then Some (shown n k) else None) card ≡ seen_by (above o x) circle b c n card
  card_seen x n None = refl
  card_seen x n (Some k) = refl

  pub seen_at : (x : Book) → get o.books b ≡ Some x → seen o circle b c ≡ seen_by (above o x) circle b c (number_of x c) (get x.cards c)
  seen_at x at = seen_is ∙ ap (seen_of o circle b c) at ∙ card_seen x (number_of x c) (get x.cards c)

  pub last_at : (x : Book) → get o.books b ≡ Some x → last_change o b c ≡ number_of x c
  last_at x at = ap (λ (book : Option Book). unwrap_or (option_map (λ (k : Book). number_of k c) book) 0) at

above_kept : (o p : Office) (x y : Book) → Kept o p → KeptBook x y → above o x ≡ above p y
above_kept o p x y h k = λ i. record {
  root_protected = sym h.root_protected i;
  root_own = sym h.root_own i;
  home_protected = sym h.home_protected i;
  home_own = sym h.home_own i;
  book_protected = sym k.protected i;
  book_own = sym k.own i;
}

-- a copy that is right at a number that the book has reached stays right
pub right_kept : (o p : Office) (circle : CircleOf) (b : List ℕ) (x : Book) (copy : NamesTo Seen) (n : ℕ) → get o.books b ≡ Some x → Kept o p → n ≤ x.changes.number
    → Right copy o circle b n → Right copy p circle b n
right_kept o p circle b x copy n at kept low right c few =
    let found = kept.books b x at in
    let y : Book = found.0 in
    let there = found.1 in
    let k = found.2 in
    elim (k.names c) [
      | inl h ↦
          let number : number_of x c ≡ number_of y c = ap (λ r. unwrap_or r 0) (sym h.0) in
          let lists = above_kept o p x y kept k in
          let cards = h.1 in
          right c (rw (last_at o circle b c x at ∙ number ∙ sym (last_at p circle b c y there)) few)
          ∙ seen_at o circle b c x at
          ∙ (λ i. seen_by (lists i) circle b c (number i) (sym cards i))
          ∙ sym (seen_at p circle b c y there)
      | inr h ↦
          let e : last_change p b c ≡ h.0 = last_at p circle b c y there ∙ ap (λ r. unwrap_or r 0) h.1 in
          let f = h.2 in
          absurd (omega arith)
    ]

pub kept_book_refl : (x : Book) → KeptBook x x
kept_book_refl x = record { protected = refl; own = refl; number = omega arith; names = λ c. inl (refl, refl) }

pub kept_book_trans : (x y z : Book) → KeptBook x y → KeptBook y z → KeptBook x z
kept_book_trans x y z h k = record {
  protected = k.protected ∙ h.protected;
  own = k.own ∙ h.own;
  number = let a = h.number in let b = k.number in omega arith;
  names = λ c. elim (k.names c) [
    | inl s ↦ elim (h.names c) [
      | inl r ↦ inl (s.0 ∙ r.0, s.1 ∙ r.1)
      | inr r ↦ inr (r.0, s.0 ∙ r.1, r.2)
    ]
    | inr s ↦ inr (s.0, s.1, let a = h.number in let b = s.2 in omega arith)
  ];
}

pub kept_refl : (o : Office) → Kept o o
kept_refl o = record { pairs = refl; root_protected = refl; root_own = refl; home_protected = refl; home_own = refl; books = λ b x at. (x, at, kept_book_refl x) }

pub kept_trans : (o p q : Office) → Kept o p → Kept p q → Kept o q
kept_trans o p q h k = record {
  pairs = k.pairs ∙ h.pairs;
  root_protected = k.root_protected ∙ h.root_protected;
  root_own = k.root_own ∙ h.root_own;
  home_protected = k.home_protected ∙ h.home_protected;
  home_own = k.home_own ∙ h.home_own;
  books = λ b x at.
      let y = h.books b x at in
      let z = k.books b y.0 y.1 in
      (z.0, z.1, kept_book_trans x y.0 z.0 y.2 z.2);
}

pub later_refl : (o : Office) → Later o o
later_refl o = inr (refl, kept_refl o)

pub later_trans : (o p q : Office) → Later o p → Later p q → Later o q
later_trans o p q h k = elim h [
  | inl a ↦ elim k [
    | inl b ↦ inl (omega (arith, a, b))
    | inr b ↦ inl (let e = b.0 in omega (arith, a))
  ]
  | inr a ↦ elim k [
    | inl b ↦ inl (let e = a.0 in omega (arith, b))
    | inr b ↦ inr (b.0 ∙ a.0, kept_trans o p q a.1 b.1)
  ]
]

-- a book of which one name was touched, and cards of other names stayed
pub touched_kept : (old new : Book) (name : List ℕ) → new.properties ≡ old.properties → new.changes ≡ touched old.changes name
    → ((c : List ℕ) → c ≢ name → get new.cards c ≡ get old.cards c) → KeptBook old new
touched_kept old new name properties changes others = record {
  protected = ap (λ (p : Properties). p.protected) properties;
  own = ap (λ (p : Properties). p.own) properties;
  number = let e : new.changes.number ≡ old.changes.number + 1 = ap (λ (n : Numbers). n.number) changes in omega arith;
  names = λ c.
      let at : get new.changes.last c ≡ get (insert old.changes.last name (old.changes.number + 1)) c = ap (λ (n : Numbers). get n.last c) changes in
      by_names c name (λ _. ((get new.changes.last c ≡ get old.changes.last c) × (get new.cards c ≡ get old.cards c)) ⊎ ((m : ℕ) × (get new.changes.last c ≡ Some m) × (old.changes.number < m)))
      (λ is. inr (old.changes.number + 1, at ∙ ap (get (insert old.changes.last name (old.changes.number + 1))) is ∙ put_here old.changes.last name (old.changes.number + 1), omega arith))
      (λ apart. inl (at ∙ put_elsewhere old.changes.last name (old.changes.number + 1) c apart, others c apart));
}

pub placed_kept : (book : Book) (c : List ℕ) (card : StoredCard) → KeptBook book (place_card book c card)
placed_kept book c card = touched_kept book (place_card book c card) c refl refl (λ q apart. put_elsewhere book.cards c card q apart)

pub removed_kept : (book : Book) (c : List ℕ) → KeptBook book (remove_card c book)
removed_kept book c = touched_kept book (remove_card c book) c refl refl (λ q apart. removed_elsewhere book.cards c q apart)

pub copied_kept : (source : Option StoredCard) (c : List ℕ) (owner : Option (List ℕ)) (book : Book) → KeptBook book (copy_from source c owner book)
copied_kept None c owner book = kept_book_refl book
copied_kept (Some source) c owner book = placed_kept book c (card_copied (get book.cards c) owner source.label source.text)

pub moved_kept : (source : Option StoredCard) (c : List ℕ) (book : Book) → KeptBook book (move_to source c book)
moved_kept None c book = kept_book_refl book
moved_kept (Some card) c book = placed_kept book c card

pub labelled_kept : (c label : List ℕ) (card : Option StoredCard) (book : Book) → KeptBook book (label_card c label card book)
labelled_kept c label None book = kept_book_refl book
labelled_kept c label (Some card) book = placed_kept book c (record card { label = label })

-- one book changed
pub with_book_kept : (o : Office) (b : List ℕ) (change : Book → Book) → ((x : Book) → KeptBook x (change x)) → Kept o (with_book change o b)
with_book_kept o b change kept = record {
  pairs = refl;
  root_protected = refl;
  root_own = refl;
  home_protected = refl;
  home_own = refl;
  books = λ q x at. by_changed o.books b change q (λ r. (y : Book) × (r ≡ Some y) × KeptBook x y)
      (λ is. (change x, ap (option_map change) at, kept x))
      (λ apart. (x, at, kept_book_refl x));
}

-- a label that is set, at any path
label_kept : (p : Path) (label : List ℕ) (o : Office) → Kept o (set_label p label o)
label_kept path.Root label o = record { pairs = refl; root_protected = refl; root_own = refl; home_protected = refl; home_own = refl; books = λ b x at. (x, at, kept_book_refl x) }
label_kept path.People label o = record { pairs = refl; root_protected = refl; root_own = refl; home_protected = refl; home_own = refl; books = λ b x at. (x, at, kept_book_refl x) }
label_kept path.Groups label o = record { pairs = refl; root_protected = refl; root_own = refl; home_protected = refl; home_own = refl; books = λ b x at. (x, at, kept_book_refl x) }
label_kept path.Books label o = record { pairs = refl; root_protected = refl; root_own = refl; home_protected = refl; home_own = refl; books = λ b x at. (x, at, kept_book_refl x) }
label_kept (path.Person n) label o = record { pairs = refl; root_protected = refl; root_own = refl; home_protected = refl; home_own = refl; books = λ b x at. (x, at, kept_book_refl x) }
label_kept (path.Group n) label o = record { pairs = refl; root_protected = refl; root_own = refl; home_protected = refl; home_own = refl; books = λ b x at. (x, at, kept_book_refl x) }
label_kept (path.Book b) label o = with_book_kept o b (λ (book : Book). record book { properties = record book.properties { label = label } })
    (λ x. record { protected = refl; own = refl; number = omega arith; names = λ c. inl (refl, refl) })
label_kept (path.Card b c) label o = with_book_kept o b (λ (book : Book). label_card c label (get book.cards c) book) (λ x. labelled_kept c label (get x.cards c) x)

adopted_later : (t : PolicyTables) (o : Office) (b : Bool) → same_office o (taken_over t o) ≡ b
    → Later o (cond b (taken_over t o) (record (taken_over t o) { epoch = (taken_over t o).epoch + 1 }))
adopted_later t o true e = subst (Later o) (same_office_is o (taken_over t o) e) (later_refl o)
adopted_later t o false e = inl (omega arith)

-- each edit leads to a later Office
pub apply_later : (o : Office) (edit : Edit) → IsPossible o edit → Later o (apply o edit)
apply_later o (PutCard b c owner text) possible = inr (refl, with_book_kept o b (put_card c owner text) (λ x. placed_kept x c (card_put (get x.cards c) owner text)))
apply_later o (RemoveCard b c) possible = inr (refl, with_book_kept o b (remove_card c) (λ x. removed_kept x c))
apply_later o (CopyCard fb fc tb tc owner) possible = inr (refl, with_book_kept o tb (copy_from (card_at o fb fc) tc owner) (λ x. copied_kept (card_at o fb fc) tc owner x))
apply_later o (MoveCard fb fc tb tc) possible = inr (
  refl,
  kept_trans o (with_book (remove_card fc) o fb) (with_book (move_to (card_at o fb fc) tc) (with_book (remove_card fc) o fb) tb)
      (with_book_kept o fb (remove_card fc) (λ x. removed_kept x fc))
      (with_book_kept (with_book (remove_card fc) o fb) tb (move_to (card_at o fb fc) tc) (λ x. moved_kept (card_at o fb fc) tc x)),
)
apply_later o (AddBook b owner) none = inr (
  refl,
  record {
    pairs = refl;
    root_protected = refl;
    root_own = refl;
    home_protected = refl;
    home_own = refl;
    books = λ q x at. by_put o.books b (new_book owner) q (λ r. (y : Book) × (r ≡ Some y) × KeptBook x y)
        (λ is. some_apart (sym at ∙ ap (get o.books) is ∙ none))
        (λ apart. (x, at, kept_book_refl x));
  },
)
apply_later o (RemoveBook b) possible = inl (omega arith)
apply_later o (SetLabel p label) possible = inr (label_leaves_epoch p label o, label_kept p label o)
apply_later o (SetList p list) possible = inl (omega arith)
apply_later o (SetMembers group members) possible = inl (omega arith)
apply_later o (Adopt t) possible = adopted_later t o (same_office o (taken_over t o)) refl
