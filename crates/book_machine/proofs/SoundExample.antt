-- An Office of one book with one card is sound.
use Rattle.book_machine.proofs.Common.{◌≡◌, ℕ, ◌+◌, ◌≤◌, List, [], true, false, Bool, Option, Some, None, refl, sym, ap, ◌∙◌, subst, arith, nat_list_cmp_total, get, insert, name_cmp, place_card, same_Some, some_apart, NamesTo, Book, StoredCard, Office, IsSound}
use Rattle.std.proofs.Common.{cond}
use Rattle.std.specs.FinSet as set
use Rattle.book_lists.specs.Memberships.{membership_cmp}
use Rattle.std.specs.FinMap.{empty, contains_key, len, len-empty, len-insert}
use Rattle.book_lists.specs.Names.{IsName}
use Rattle.book_limits.specs.declared.TheConstants.{MAX_BOOKS, MAX_CARDS}
use Rattle.book_office.proofs.NewOffices.{empty_sound}
use Rattle.book_office.specs.Edits.{empty_office, empty_properties, new_book}
use Rattle.book_office.specs.Sound.{AreSoundProperties, IsSoundBook, IsSoundCard}
use Rattle.book_office_values.proofs.Labels.{empty_label}
use Rattle.book_office_values.proofs.OneName.{by_put, nothing_in}

bare : (o : Office) → AreSoundProperties o (empty_properties None)
bare o = record {
  owner = tt;
  label = empty_label;
  protected = record { few = omega arith; known = λ k d l. absurd (omega arith) };
  own = record { few = omega arith; known = λ k d l. absurd (omega arith) };
}

one_more : (there : Bool) (n : ℕ) → cond there n (n + 1) ≤ n + 1
one_more true n = omega arith
one_more false n = omega arith

-- a map of one name has at most one value
of_one : {V : Type 0} (k : List ℕ) (v : V) → len (insert (empty {X = V} {R = name_cmp}) k v) ≤ 1
of_one {V = V} k v =
    let grown : len (insert (empty {X = V} {R = name_cmp}) k v) ≤ len (empty {X = V} {R = name_cmp}) + 1 =
    rw (len-insert nat_list_cmp_total (empty {X = V} {R = name_cmp}) k v) (one_more (contains_key (empty {X = V} {R = name_cmp}) k) (len (empty {X = V} {R = name_cmp}))) in
    subst (λ n. len (insert (empty {X = V} {R = name_cmp}) k v) ≤ n + 1) (len-empty name_cmp V) grown

-- the one change of such a book
abbrev one_change : List ℕ → NamesTo ℕ
one_change c = insert empty c 1

-- a new book with one card
pub sound_book : (o : Office) (c : List ℕ) (card : StoredCard) → IsName c → IsSoundCard o card → IsSoundBook o (place_card (new_book None) c card)
sound_book o c card named is = record {
  properties = bare o;
  cards = λ q x. by_put empty c card q (λ r. r ≡ Some x → IsSoundCard o x) (λ _ e. subst (IsSoundCard o) (same_Some card x e) is) (λ _ e. nothing_in q x e);
  few = let one = of_one c card in omega (arith, one);
  changed = λ q x. by_put empty c card q (λ r. r ≡ Some x → get (one_change c) q ≡ None → ⊥)
      (λ same e. by_put empty c 1 q (λ (r : Option ℕ). r ≡ None → ⊥) (λ _ e. some_apart e) (λ apart. absurd (apart same)))
      (λ _ e. nothing_in q x e);
  names = λ q n. by_put empty c 1 q (λ (r : Option ℕ). r ≡ Some n → IsName q) (λ same _. subst IsName (sym same) named) (λ _ e. nothing_in q n e);
  within = λ q n. by_put empty c 1 q (λ (r : Option ℕ). r ≡ Some n → (1 ≤ n) × (n ≤ 1))
      (λ _ e. let one : 1 ≡ n = same_Some 1 n e in (omega (arith, one), omega (arith, one)))
      (λ _ e. nothing_in q n e);
  different = λ a b n. by_put empty c 1 a (λ (r : Option ℕ). r ≡ Some n → get (one_change c) b ≡ Some n → a ≡ b)
      (λ at_a _. by_put empty c 1 b (λ (r : Option ℕ). r ≡ Some n → a ≡ b) (λ at_b _. at_a ∙ sym at_b) (λ _ e. nothing_in b n e))
      (λ _ e _. nothing_in a n e);
  last = omega arith;
}

-- an Office of one book
abbrev of_book : List ℕ → Book → Office
of_book b book = record empty_office { books = insert empty b book }

-- it is sound where the book is
pub sound_office : (b : List ℕ) (book : Book) → IsName b → ((o : Office) → IsSoundBook o book) → IsSound (record empty_office { books = insert empty b book })
sound_office b book named is = record {
  root = bare (of_book b book);
  people = bare (of_book b book);
  groups_home = bare (of_book b book);
  books_home = bare (of_book b book);
  persons = λ q k e. nothing_in q k e;
  groups = λ q k e. nothing_in q k e;
  books = λ q x. by_put empty b book q (λ r. r ≡ Some x → IsName q × IsSoundBook (of_book b book) x)
      (λ same e. (subst IsName (sym same) named, subst (IsSoundBook (of_book b book)) (same_Some book x e) (is (of_book b book))))
      (λ _ e. nothing_in q x e);
  few = let one = of_one b book in omega (arith, one);
  pairs = λ pair e. absurd (let none = set.contains-empty membership_cmp pair in cc (none, e));
  members = empty_sound.members;
  epoch = omega arith;
}
