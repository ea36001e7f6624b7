-- How a report is read: by the lists above a book's cards, read once, and each card's own list.
use Rattle.std.specs.Prelude.{ℕ, Bool, true, List, ◌++◌, ◌==◌, ◌&&◌, nat_le, Option, Some, None, if◌then◌else◌}
use Rattle.std.specs.List.{flat_map}
use Rattle.std.specs.Str.{bytes_eq}
use Rattle.book_rights.specs.declared.privileges.Leaf.{Leaf}
use Rattle.book_lists.specs.Circles.{CircleOf}
use Rattle.book_lists.specs.declared.entries.Entry.{Entry}
use Rattle.book_lists.specs.declared.entries.Here.{Here}
use Rattle.book_office_values.specs.declared.offices.StoredCard.{StoredCard}
use Rattle.book_office.specs.declared.nodes.Changed.{Changed}
use Rattle.book_office.specs.declared.nodes.Level.{Level}
use Rattle.book_office_sync.specs.Copies.{grants, grants_read, here_of_card}
use Rattle.book_office_sync.specs.declared.messages.Found.{Found}
use Rattle.book_office_sync.specs.declared.messages.Item.{Item}
use Rattle.book_office_sync.specs.declared.messages.Token.{Token}
use Rattle.book_office_sync.specs.declared.reports.Above.{Above}

-- the entries of all levels
abbrev pub above_of : List Level → Above
above_of ls = record { protected = flat_map (λ (l : Level). l.protected) ls; own = flat_map (λ (l : Level). l.own) ls }

-- the entries in force at a card with an own list
abbrev pub entries_under : Above → List Entry → List Entry
entries_under above own = above.protected ++ (own ++ above.own)

-- whether one leaf is granted there, and whether `read` is
abbrev pub is_granted : Above → CircleOf → Here → List Entry → Leaf → Bool
is_granted above circle here own leaf = grants (entries_under above own) circle here leaf

abbrev pub is_readable : Above → CircleOf → Here → List Entry → Bool
is_readable above circle here own = grants_read (entries_under above own) circle here

abbrev pub found_in : Above → CircleOf → Option StoredCard → Option Found
found_in above circle None = None
found_in above circle (Some card) = if is_readable above circle (here_of_card card) card.own then Some (record { label = card.label; text = card.text }) else None

abbrev pub item_in : Above → CircleOf → Changed → Item
item_in above circle change = record { name = change.name; number = change.number; found = found_in above circle change.card }

-- whether a token, if there is one, names this book, this epoch and a number up to this one
abbrev pub names_place : List ℕ → ℕ → ℕ → Option Token → Bool
names_place b epoch number None = true
names_place b epoch number (Some token) = bytes_eq token.book b && token.epoch == epoch && nat_le token.number number
