-- Resources of a backup are put into a store (own profile).
use Rattle.std.specs.Prelude.{◌≡◌, ℕ, ◌+◌, ◌<◌, ◌≤◌, Bool, true, false, ◌||◌, nat_lt, List, [], ◌++◌, codes, count_by, decimal, Option, Some, None}
use Rattle.std.specs.List.{list_any}
use Rattle.book_limits.specs.declared.TheConstants.{LAST_NUMBER, MAX_BOOKS, MAX_CARDS}
use Rattle.book_dumps.specs.declared.lines.Line.{Line}
use Rattle.book_dumps_changes.specs.declared.changed.Changed.{Changed}
use Rattle.book_dumps_reading.specs.declared.dumped.Dumped.{Dumped}
use Rattle.book_office_values.specs.declared.paths.Path.{Path}
use Rattle.book_office_values.specs.declared.paths.Path.TheVariants as path
use Rattle.book_dumps_restoring.specs.Comparing.{any_differs, is_any_book}
use Rattle.book_dumps_restoring.specs.Knowing.{have_parents, knows_each}
use Rattle.book_dumps_restoring.specs.Naming.{are_found, is_card_in, wanted}
use Rattle.book_dumps_restoring.specs.Putting.{put_lines, told_lines}
use Rattle.book_dumps_restoring.specs.Standing.{Standing, lines_of, placed}
use Rattle.book_dumps_restoring.specs.declared.faults.RestoreFault.{RestoreFault}
use Rattle.book_dumps_restoring.specs.declared.faults.RestoreFault.TheVariants.{NotFound, NoParent, UnknownPrincipal, Full, LastNumber, Memory}

-- what stands at each path of the store
abbrev pub store_standing : Dumped → Standing
store_standing store = placed store.lines

-- what stands at each path afterwards
abbrev pub restored_standing : Dumped → Dumped → List Path → Standing
restored_standing store backup paths = put_lines (store_standing store) (wanted backup.lines paths)

-- ---- the epoch
-- whether access is another one afterwards
abbrev pub rises : Dumped → Dumped → List Path → Bool
rises store backup paths = any_differs (store_standing store) (wanted backup.lines paths)

abbrev pub epoch_after : Bool → ℕ → ℕ
epoch_after true epoch = epoch + 1
epoch_after false epoch = epoch

-- epoch OLD -> NEW
abbrev pub told_epoch : Bool → ℕ → List ℕ
told_epoch true epoch = codes "epoch " ++ (decimal epoch ++ (codes " -> " ++ (decimal (epoch + 1) ++ codes "\n")))
told_epoch false epoch = []

-- ---- what is made
abbrev pub restored : Dumped → Dumped → List Path → Changed
restored store backup paths = record {
  dumped = record { epoch = epoch_after (rises store backup paths) store.epoch; lines = lines_of (restored_standing store backup paths) };
  told = told_lines (store_standing store) (wanted backup.lines paths) ++ told_epoch (rises store backup paths) store.epoch;
}

-- ---- limits
abbrev pub is_book_line : Line → Bool
is_book_line line = is_any_book line.path

-- the cards of a book
abbrev pub cards_in : List Line → List ℕ → ℕ
cards_in lines book = count_by (λ (line : Line). is_card_in book line.path) lines

-- the book that a path names, or of which it names a card, has too many cards
abbrev pub is_crowded : List Line → Path → Bool
is_crowded lines path.Root = false
is_crowded lines path.People = false
is_crowded lines path.Groups = false
is_crowded lines path.Books = false
is_crowded lines (path.Person name) = false
is_crowded lines (path.Group name) = false
is_crowded lines (path.Book book) = nat_lt MAX_CARDS (cards_in lines book)
is_crowded lines (path.Card book card) = nat_lt MAX_CARDS (cards_in lines book)

abbrev pub is_past : Option ℕ → Bool
is_past None = false
is_past (Some number) = nat_lt LAST_NUMBER number

abbrev pub is_past_line : Line → Bool
is_past_line line = is_past line.number

-- there are too many books, or too many cards in a book that is restored, or a number is above the last
abbrev pub is_full : List Line → List Path → Bool
is_full lines paths =
    nat_lt MAX_BOOKS (count_by is_book_line lines) || (list_any (is_crowded lines) paths || list_any is_past_line lines)

-- ---- what may be restored
-- everything that is named is found, each card has its book, each principal is known, and there is room
pub record MayRestore (store backup : Dumped) (paths : List Path) : Type 0 where
  pub found : are_found backup.lines paths ≡ true
  pub parents : have_parents (store_standing store) paths ≡ true
  pub known : knows_each (store_standing store) (wanted backup.lines paths) ≡ true
  pub room : is_full (lines_of (restored_standing store backup paths)) paths ≡ false
  pub epoch : rises store backup paths ≡ true → store.epoch < LAST_NUMBER

-- why it may not; a fault comes where none of those above it does
abbrev pub IsRefused : Dumped → Dumped → List Path → RestoreFault → Type 0
IsRefused store backup paths NotFound = are_found backup.lines paths ≡ false
IsRefused store backup paths NoParent = (are_found backup.lines paths ≡ true) × (have_parents (store_standing store) paths ≡ false)
IsRefused store backup paths UnknownPrincipal =
    (are_found backup.lines paths ≡ true) × (have_parents (store_standing store) paths ≡ true)
    × (knows_each (store_standing store) (wanted backup.lines paths) ≡ false)
IsRefused store backup paths Full =
    (are_found backup.lines paths ≡ true) × (have_parents (store_standing store) paths ≡ true)
    × (knows_each (store_standing store) (wanted backup.lines paths) ≡ true)
    × (is_full (lines_of (restored_standing store backup paths)) paths ≡ true)
IsRefused store backup paths LastNumber =
    (are_found backup.lines paths ≡ true) × (have_parents (store_standing store) paths ≡ true)
    × (knows_each (store_standing store) (wanted backup.lines paths) ≡ true)
    × (is_full (lines_of (restored_standing store backup paths)) paths ≡ false)
    × (rises store backup paths ≡ true) × (LAST_NUMBER ≤ store.epoch)
IsRefused store backup paths Memory = Unit {0}
