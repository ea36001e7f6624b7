-- What a copy or a move finds, and leaves on its way: room for the card at its destination, and an empty book in the place of one that is taken out.
use Rattle.std.specs.Prelude.{◌≡◌, ℕ, ◌≤◌, Bool, List, [], cond, is_some, None, Some}
use Rattle.std.specs.FinMap.{get, insert, remove}
use Rattle.book_office_values.specs.Names.{NamesTo, changed_at}
use Rattle.book_office_values.specs.Fresh.{new_book}
use Rattle.book_office_values.specs.declared.offices.Book.{Book}
use Rattle.book_office_values.specs.declared.offices.StoredCard.{StoredCard}
use Rattle.book_limits.specs.declared.TheConstants.{LAST_NUMBER}

-- the number of each book is within its limit, as in a sound Office; so it can rise
abbrev pub AreNumbered : NamesTo Book → Type 0
AreNumbered books = (name : List ℕ) (book : Book) → get books name ≡ Some book → book.changes.number ≤ LAST_NUMBER

abbrev pub bare_book : Book
bare_book = new_book None

abbrev pub empty_card : StoredCard
empty_card = record { owner = None; label = []; own = []; text = [] }

abbrev pub relabelled : List ℕ → List ℕ → StoredCard → StoredCard
relabelled label text card = record card { label = label; text = text }

abbrev pub roomed : NamesTo StoredCard → List ℕ → NamesTo StoredCard
roomed cards c = cond (is_some (get cards c)) cards (insert cards c empty_card)

abbrev pub unroomed : NamesTo StoredCard → List ℕ → Bool → NamesTo StoredCard
unroomed cards c made = cond made (remove cards c) cards

abbrev pub handed : StoredCard → NamesTo StoredCard → List ℕ → NamesTo StoredCard
handed card cards c = changed_at (λ _. card) cards c
