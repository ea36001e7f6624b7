-- Whether the owner or the own list of a resource becomes another one.
use Rattle.std.specs.Prelude.{ℕ, Bool, true, false, not, ◌&&◌, ◌||◌, List, [], ◌∷◌, Option, Some, None}
use Rattle.std.specs.Bool.{beq}
use Rattle.std.specs.List.{list_any}
use Rattle.std.specs.Str.{bytes_eq}
use Rattle.book_dumps.specs.declared.lines.Line.{Line}
use Rattle.book_lists.specs.declared.entries.Entry.{Entry}
use Rattle.book_office_audit.specs.EntryLines.{who_text}
use Rattle.book_office_values.specs.declared.paths.Path.{Path}
use Rattle.book_office_values.specs.declared.paths.Path.TheVariants as path
use Rattle.book_rights.specs.Leaves.{same_leaves}
use Rattle.book_dumps_restoring.specs.Standing.{Standing, at}

-- entries of the same principal form, inversion, action and leaves
abbrev pub same_entry : Entry → Entry → Bool
same_entry a b = bytes_eq (who_text a.who) (who_text b.who) && (beq a.invert b.invert && (beq a.deny b.deny && same_leaves a.set b.set))

-- lists of the same entries, in order
abbrev pub same_entries : List Entry → List Entry → Bool
same_entries [] [] = true
same_entries [] (entry ∷ entries) = false
same_entries (entry ∷ entries) [] = false
same_entries (entry ∷ entries) (other ∷ others) = same_entry entry other && same_entries entries others

abbrev pub same_owner : Option (List ℕ) → Option (List ℕ) → Bool
same_owner None None = true
same_owner None (Some owner) = false
same_owner (Some owner) None = false
same_owner (Some owner) (Some other) = bytes_eq owner other

abbrev pub is_any_book : Path → Bool
is_any_book path.Root = false
is_any_book path.People = false
is_any_book path.Groups = false
is_any_book path.Books = false
is_any_book (path.Person name) = false
is_any_book (path.Group name) = false
is_any_book (path.Book book) = true
is_any_book (path.Card book card) = false

abbrev pub has_entries : List Entry → Bool
has_entries [] = false
has_entries (entry ∷ entries) = true

-- access is another one with a line than with what stood at its path: the owner or the own list differs; where nothing stood there
-- it is a book, or has a list of its own
abbrev pub differs : Option Line → Line → Bool
differs None line = is_any_book line.path || has_entries line.own
differs (Some old) line = not (same_owner old.owner line.owner && same_entries old.own line.own)

-- access is another one with some of the lines
abbrev pub any_differs : Standing → List Line → Bool
any_differs standing lines = list_any (λ (line : Line). differs (at standing line.path) line) lines
