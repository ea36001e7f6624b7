-- A caller's view of a book, as it is read: page by page.
use Rattle.std.specs.Prelude.{◌≡◌, ℕ, ◌<◌, ◌≤◌, List, [], ◌++◌, map, Option, Some, None, option_map, unwrap_or}
use Rattle.std.specs.FinMap.{get}
use Rattle.book_limits.specs.declared.TheConstants.{LAST_NUMBER}
use Rattle.book_lists.specs.Circles.{CircleOf}
use Rattle.book_office_values.specs.Changes.{changes_after}
use Rattle.book_office_values.specs.declared.offices.Book.{Book}
use Rattle.book_office_values.specs.declared.offices.Office.{Office}
use Rattle.book_office_sync.specs.Copies.{item_of, listed_changes}
use Rattle.book_office_sync.specs.declared.messages.Item.{Item}

-- the cards of a book that the caller sees whose last changes are after a number, in order of number; none where there is no such book
abbrev pub viewed : Office → CircleOf → List ℕ → ℕ → List Item
viewed o circle b n = unwrap_or (option_map (λ (x : Book). map (item_of o circle b) (listed_changes o circle b None (changes_after x.changes.last n))) (get o.books b)) []

-- these are all of them; or the first, and the others are those after the next number
abbrev pub IsViewPage : Office → CircleOf → List ℕ → ℕ → List Item → Option ℕ → Type 0
IsViewPage o circle b after items None = viewed o circle b after ≡ items
IsViewPage o circle b after items (Some next) = (after < next) × (next ≤ LAST_NUMBER) × (viewed o circle b after ≡ items ++ viewed o circle b next)
