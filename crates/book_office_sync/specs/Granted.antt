-- The texts of a book's cards on which one leaf is granted, and what is kept of them.
use Rattle.std.specs.Prelude.{ℕ, List, [], ◌∷◌, Option, Some, None, option_and_then, if◌then◌else◌}
use Rattle.std.specs.FinMap.{get, insert}
use Rattle.book_rights.specs.declared.privileges.Leaf.{Leaf}
use Rattle.book_lists.specs.Circles.{CircleOf}
use Rattle.book_office_values.specs.Names.{NamesTo}
use Rattle.book_office_values.specs.declared.offices.Book.{Book}
use Rattle.book_office_values.specs.declared.offices.StoredCard.{StoredCard}
use Rattle.book_office_values.specs.declared.offices.Office.{Office}
use Rattle.book_office_values.specs.declared.paths.Path.TheVariants as path
use Rattle.book_office.specs.OwnLists.{entries_in_force}
use Rattle.book_office.specs.declared.nodes.Changed.{Changed}
use Rattle.book_office_sync.specs.Copies.{grants, here_of_card}
use Rattle.book_office_sync.specs.Reading.{is_granted}
use Rattle.book_office_sync.specs.declared.reports.Above.{Above}

-- the text of the card with a name, where there is one and the leaf is granted at it
abbrev pub text_in : Office → CircleOf → List ℕ → List ℕ → Leaf → Book → Option (List ℕ)
text_in o circle b c leaf book = option_and_then (λ (card : StoredCard). if grants (entries_in_force o (path.Card b c)) circle (here_of_card card) leaf then Some card.text else None) (get book.cards c)

abbrev pub text_at : Office → CircleOf → List ℕ → Leaf → List ℕ → Option (List ℕ)
text_at o circle b leaf c = option_and_then (text_in o circle b c leaf) (get o.books b)

-- ---- how they are read: by the lists above the cards, and each card's own list
abbrev pub text_of : Above → CircleOf → Leaf → Option StoredCard → Option (List ℕ)
text_of above circle leaf card = option_and_then (λ (k : StoredCard). if is_granted above circle (here_of_card k) k.own leaf then Some k.text else None) card

abbrev pub put_text : {V : Type 0} → (List ℕ → V) → NamesTo V → List ℕ → Option (List ℕ) → NamesTo V
put_text kept told name None = told
put_text kept told name (Some text) = insert told name (kept text)

abbrev pub put_texts : {V : Type 0} → (List ℕ → V) → Above → CircleOf → Leaf → List Changed → NamesTo V → NamesTo V
put_texts kept above circle leaf [] told = told
put_texts kept above circle leaf (c ∷ cs) told = put_texts kept above circle leaf cs (put_text kept told c.name (text_of above circle leaf c.card))
