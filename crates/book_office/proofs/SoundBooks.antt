-- A book stays sound when a name of it is touched.
use Rattle.book_office.proofs.Common.{◌≡◌, ◌≢◌, inl, inr, ℕ, ◌+◌, ◌<◌, List, Option, Some, None, sym, subst, le_trans, arith, get, same_Some, IsName, Book, StoredCard, Office, LAST_NUMBER, remove_card, new_book, name_cmp, IsOwner, IsSoundCard, IsSoundBook, some_apart, where_some, is_there, by_put, by_removed}
use Rattle.std.specs.FinMap.{len-empty}
use Rattle.book_office_values.specs.Changes.{touched, AreNumbers}
use Rattle.book_office_values.specs.declared.collections.changes.Numbers.{Numbers}
use Rattle.book_limits.specs.declared.TheConstants.{MAX_CARDS}
use Rattle.book_office_values.proofs.Labels.{empty_label}
use Rattle.book_office.specs.Edits.{place_card}
use Rattle.book_office.specs.Fitting.{HasRoom}
use Rattle.book_office_values.proofs.NameMapLaws.{len_put, len_removed}
use Rattle.book_office_values.proofs.Touches.{touched_are}
use Rattle.book_office_values.proofs.OneName.{nothing_in}

-- a book, sound before, whose name is touched
module _ (o : Office) (book : Book) (name : List ℕ) (sound : IsSoundBook o book) where
  abbrev after : Numbers
  after = touched book.changes name

  -- by whether a name is the one that was touched
  by_touch : (q : List ℕ) (P : Option ℕ → Type 0) → (q ≡ name → P (Some (book.changes.number + 1))) → (q ≢ name → P (get book.changes.last q)) → P (get after.last q)
  by_touch = by_put book.changes.last name (book.changes.number + 1)

  touched_names : IsName name → (q : List ℕ) (n : ℕ) → get after.last q ≡ Some n → IsName q
  touched_names named q n = by_touch q (λ r. r ≡ Some n → IsName q) (λ is _. subst IsName (sym is) named) (λ _. sound.names q n)

  numbers : AreNumbers after
  numbers = touched_are book.changes name (record { within = sound.within; different = sound.different })

  still_changed : (q : List ℕ) → get book.changes.last q ≢ None → get after.last q ≢ None
  still_changed q h = by_touch q (λ r. r ≢ None) (λ _ e. some_apart e) (λ _. h)

  now_changed : (q : List ℕ) → q ≡ name → get after.last q ≢ None
  now_changed q is = by_touch q (λ r. r ≢ None) (λ _ e. some_apart e) (λ apart. absurd (apart is))

  -- any sound card may be placed at a name, where there is room
  pub placed_sound : (card : StoredCard) → IsName name → IsSoundCard o card → book.changes.number < LAST_NUMBER → HasRoom book name
      → IsSoundBook o (place_card book name card)
  placed_sound card named good low room = record {
    properties = sound.properties;
    cards = λ q k. by_put book.cards name card q (λ r. r ≡ Some k → IsSoundCard o k)
        (λ _ h. subst (IsSoundCard o) (same_Some card k h) good)
        (λ _. sound.cards q k);
    few = len_put book.cards name card MAX_CARDS (elim room [ inl h ↦ inl (is_there _ h, sound.few) | inr h ↦ inr h ]);
    changed = λ q k. by_put book.cards name card q (λ r. r ≡ Some k → get after.last q ≢ None)
        (λ is _. now_changed q is)
        (λ _ h. still_changed q (sound.changed q k h));
    names = touched_names named;
    within = numbers.within;
    different = numbers.different;
    last = omega arith;
  }

  pub removed_sound : IsName name → book.changes.number < LAST_NUMBER → IsSoundBook o (remove_card name book)
  removed_sound named low = record {
    properties = sound.properties;
    cards = λ q k. by_removed book.cards name q (λ r. r ≡ Some k → IsSoundCard o k) (λ _ h. some_apart (sym h)) (λ _. sound.cards q k);
    few = le_trans (len_removed book.cards name) sound.few;
    changed = λ q k. by_removed book.cards name q (λ r. r ≡ Some k → get after.last q ≢ None)
        (λ _ h. some_apart (sym h))
        (λ _ h. still_changed q (sound.changed q k h));
    names = touched_names named;
    within = numbers.within;
    different = numbers.different;
    last = omega arith;
  }

  -- the name of a card is a name
  pub card_named : get book.cards name ≢ None → IsName name
  card_named mapped = where_some (get book.cards name) mapped (λ card e.
      where_some (get book.changes.last name) (sound.changed name card e) (sound.names name))

pub new_book_sound : (o : Office) (owner : Option (List ℕ)) → IsOwner o owner → IsSoundBook o (new_book owner)
new_book_sound o owner known = record {
  properties = record {
    owner = known;
    label = empty_label;
    protected = record { few = omega arith; known = λ k d l. absurd (omega arith) };
    own = record { few = omega arith; known = λ k d l. absurd (omega arith) };
  };
  cards = λ q k e. nothing_in q k e;
  few = rw (len-empty name_cmp StoredCard) (omega arith);
  changed = λ q k e. nothing_in q k e;
  names = λ q n e. nothing_in q n e;
  within = λ q n e. nothing_in q n e;
  different = λ a b n e _. nothing_in a n e;
  last = omega arith;
}
