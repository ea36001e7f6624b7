-- Where no own list stands at any card of a book, no card has entries.
use Rattle.book_office_cache.proofs.Common.{◌≡◌, Option, Some, ap, ◌∙◌, AreAllBare, Office}
use Rattle.std.proofs.Common.{ℕ, Bool, true, false, cond, ◌&&◌, List, [], ◌∷◌, length, None, nat_eq, eqb-true, option_map, unwrap_or, refl, sym}
use Rattle.std.proofs.lemmas.Bool.{false≢true}
use Rattle.std.proofs.lemmas.List.{nil_from_length}
use Rattle.std.specs.FinMap.{get, entries, get-entries, find}
use Rattle.std.specs.List.{list_all}
use Rattle.std.specs.Ordering.{is_eq}
use Rattle.book_office_cache.proofs.OneBook.{bare_if, own_of, own_under}
use Rattle.book_office_cache.specs.Remembering.{has_no_list}
use Rattle.book_lists.specs.Names.{name_cmp}
use Rattle.book_lists.specs.declared.entries.Entry.{Entry}
use Rattle.book_office.specs.Resources.{children_at, listed_cards, listed_of_book}
use Rattle.book_office.specs.declared.nodes.Listed.{Listed}
use Rattle.book_office_values.specs.declared.offices.Book.{Book}
use Rattle.book_office_values.specs.declared.offices.StoredCard.{StoredCard}
use Rattle.book_office_values.specs.declared.paths.Path.TheVariants as path

both_left : (a b : Bool) → (a && b) ≡ true → a ≡ true
both_left true b is = refl
both_left false b is = is

both_right : (a b : Bool) → (a && b) ≡ true → b ≡ true
both_right true b is = is
both_right false b is = absurd (false≢true is)

no_entries : (list : List Entry) → nat_eq (length list) 0 ≡ true → list ≡ []
no_entries list is = nil_from_length list (eqb-true (length list) 0 is)

-- of the first card or of a later one
first_or_later : (card : StoredCard) (later : Option StoredCard) → card.own ≡ [] → own_of later ≡ [] → (same : Bool) → own_of (cond same (Some card) later) ≡ []
first_or_later card later none rest true = none
first_or_later card later none rest false = rest

none_found : (book : Book) (es : List (List ℕ × StoredCard)) → list_all has_no_list (listed_of_book book es) ≡ true → (c : List ℕ) → own_of (find name_cmp c es) ≡ []
none_found book [] is c = refl
none_found book (e ∷ es) is c =
    let first : nat_eq (length e.1.own) 0 ≡ true = both_left (nat_eq (length e.1.own) 0) (list_all has_no_list (listed_of_book book es)) is in
    let rest : list_all has_no_list (listed_of_book book es) ≡ true = both_right (nat_eq (length e.1.own) 0) (list_all has_no_list (listed_of_book book es)) is in
    first_or_later e.1 (find name_cmp c es) (no_entries e.1.own first) (none_found book es rest c) (is_eq (name_cmp c e.0))

none_in_book : (c : List ℕ) (book : Option Book) → list_all has_no_list (unwrap_or (option_map listed_cards book) []) ≡ true → own_under c book ≡ []
none_in_book c None is = refl
none_in_book c (Some book) is = ap own_of (get-entries book.cards c) ∙ none_found book (entries book.cards) is c

pub none_listed : (o : Office) (b : List ℕ) (cards : List Listed) → cards ≡ children_at o (path.Book b) → list_all has_no_list cards ≡ true → AreAllBare o b
none_listed o b cards told is c = bare_if b c (get o.books b) (none_in_book c (get o.books b) (ap (list_all has_no_list) (sym told) ∙ is))
