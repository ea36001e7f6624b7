-- How a book's changes are read: page by page.
use Rattle.std.specs.Prelude.{◌≡◌, ℕ, ◌<◌, ◌≤◌, List, [], ◌∷◌, ◌++◌, length, nat_lt, Option, Some, None, if◌then◌else◌}
use Rattle.book_limits.specs.declared.TheConstants.{LAST_NUMBER}
use Rattle.book_office_values.specs.declared.offices.Office.{Office}
use Rattle.book_office.specs.Resources.{cards_after, changed_after}
use Rattle.book_office.specs.declared.nodes.Changed.{Changed}
use Rattle.book_office_sync.specs.declared.messages.Token.{Token}

-- the changes of a book after a number that a report is about: without a token those of names that have a card alone
abbrev pub changes_told : Office → List ℕ → Option Token → ℕ → List Changed
changes_told o b None n = cards_after o b n
changes_told o b (Some token) n = changed_after o b n

-- the number of the last change, and else the one before them
abbrev pub last_changed : ℕ → List Changed → ℕ
last_changed before [] = before
last_changed before (c ∷ cs) = last_changed c.number cs

-- the number of the last of so many changes; none where there are fewer
abbrev pub last_of_page : ℕ → ℕ → List Changed → Option ℕ
last_of_page size before changes = if nat_lt (length changes) size then None else Some (last_changed before changes)

-- these are all changes after a number; or the first of them, and the others are those after the next number
abbrev pub IsPage : Office → List ℕ → Option Token → ℕ → List Changed → Option ℕ → Type 0
IsPage o b token after changes None = changes_told o b token after ≡ changes
IsPage o b token after changes (Some next) = (after < next) × (next ≤ LAST_NUMBER) × (changes_told o b token after ≡ changes ++ changes_told o b token next)
