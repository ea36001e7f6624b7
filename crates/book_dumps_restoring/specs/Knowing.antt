-- Which principals lines name, and whether the store knows them; and whether the book of each card is there.
use Rattle.std.specs.Prelude.{ℕ, Bool, true, ◌&&◌, ◌||◌, List, Option, Some, None}
use Rattle.std.specs.List.{list_all}
use Rattle.book_dumps.specs.declared.lines.Line.{Line}
use Rattle.book_lists.specs.declared.entries.Entry.{Entry}
use Rattle.book_lists.specs.declared.entries.Who.{Who}
use Rattle.book_lists.specs.declared.entries.Who.TheVariants.{Href, Everyone, Authenticated, Unauthenticated, Owner, Own}
use Rattle.book_office_values.specs.Paths.{book_path}
use Rattle.book_office_values.specs.declared.paths.Path.{Path}
use Rattle.book_office_values.specs.declared.paths.Path.TheVariants as path
use Rattle.book_dumps_restoring.specs.Naming.{is_named}
use Rattle.book_dumps_restoring.specs.Standing.{Standing, at, is_there}

-- a form names no principal that has no line
abbrev pub knows_who : Standing → Who → Bool
knows_who standing (Href principal) = is_there standing principal
knows_who standing Everyone = true
knows_who standing Authenticated = true
knows_who standing Unauthenticated = true
knows_who standing Owner = true
knows_who standing Own = true

abbrev pub knows_entry : Standing → Entry → Bool
knows_entry standing entry = knows_who standing entry.who

abbrev pub knows_entries : Standing → List Entry → Bool
knows_entries standing entries = list_all (knows_entry standing) entries

abbrev pub knows_owner : Standing → Option (List ℕ) → Bool
knows_owner standing None = true
knows_owner standing (Some owner) = is_there standing owner

-- the protected list of a book counts where the store lacks the book
abbrev pub knows_protected : Standing → Option Line → Line → Bool
knows_protected standing (Some old) line = true
knows_protected standing None line = knows_entries standing line.protected

-- the owner, and each principal that a list which is restored names, has a line in the store
abbrev pub knows_line : Standing → Line → Bool
knows_line standing line =
    knows_owner standing line.owner && (knows_entries standing line.own && knows_protected standing (at standing line.path) line)

abbrev pub knows_each : Standing → List Line → Bool
knows_each standing lines = list_all (knows_line standing) lines

-- the book of a card that is named stands in the store, or is named; that of a card of a named book is
abbrev pub has_parent : Standing → List Path → Path → Bool
has_parent standing paths path.Root = true
has_parent standing paths path.People = true
has_parent standing paths path.Groups = true
has_parent standing paths path.Books = true
has_parent standing paths (path.Person name) = true
has_parent standing paths (path.Group name) = true
has_parent standing paths (path.Book book) = true
has_parent standing paths (path.Card book card) = is_named paths book || is_there standing (book_path book)

abbrev pub have_parents : Standing → List Path → Bool
have_parents standing paths = list_all (has_parent standing paths) paths
