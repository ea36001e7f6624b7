-- What is counted of an Office, as its dump tells it (own profile).
use Rattle.std.specs.Prelude.{ℕ, ◌+◌, Bool, true, false, List, ◌++◌, codes, length, decimal, count_by, sum_by}
use Rattle.book_dumps.specs.Dumps.{counted}
use Rattle.book_dumps.specs.declared.lines.Line.{Line}
use Rattle.book_dumps_reading.specs.declared.dumped.Dumped.{Dumped}
use Rattle.book_office_values.specs.declared.paths.Kind.{Kind}
use Rattle.book_office_values.specs.declared.paths.Kind.TheVariants as kind
use Rattle.book_office_values.specs.Paths.{kind_of}

-- the kind is that of a person, of a group, of a book, of a card
abbrev pub is_person : Kind → Bool
is_person kind.Root = false
is_person kind.Home = false
is_person kind.Person = true
is_person kind.Group = false
is_person kind.Book = false
is_person kind.Card = false

abbrev pub is_group : Kind → Bool
is_group kind.Root = false
is_group kind.Home = false
is_group kind.Person = false
is_group kind.Group = true
is_group kind.Book = false
is_group kind.Card = false

abbrev pub is_book : Kind → Bool
is_book kind.Root = false
is_book kind.Home = false
is_book kind.Person = false
is_book kind.Group = false
is_book kind.Book = true
is_book kind.Card = false

abbrev pub is_card : Kind → Bool
is_card kind.Root = false
is_card kind.Home = false
is_card kind.Person = false
is_card kind.Group = false
is_card kind.Book = false
is_card kind.Card = true

-- the removed names that stand at a resource, its direct members, and its entries
abbrev pub removed_at : Line → ℕ
removed_at l = length l.removed

abbrev pub members_at : Line → ℕ
members_at l = length l.members

abbrev pub entries_at : Line → ℕ
entries_at l = length l.protected + length l.own

-- a count with its name, on a line; a count stays at 2^64 - 1
abbrev pub count_line : List ℕ → ℕ → List ℕ
count_line name n = name ++ decimal n ++ codes "\n"

abbrev pub resources_text : Dumped → List ℕ
resources_text d =
    count_line (codes "persons ") (count_by (λ (l : Line). is_person (kind_of l.path)) d.lines)
    ++ count_line (codes "groups ") (count_by (λ (l : Line). is_group (kind_of l.path)) d.lines)
    ++ count_line (codes "books ") (count_by (λ (l : Line). is_book (kind_of l.path)) d.lines)
    ++ count_line (codes "cards ") (count_by (λ (l : Line). is_card (kind_of l.path)) d.lines)

abbrev pub content_text : Dumped → List ℕ
content_text d =
    count_line (codes "removed ") (counted (sum_by removed_at d.lines))
    ++ count_line (codes "members ") (counted (sum_by members_at d.lines))
    ++ count_line (codes "entries ") (counted (sum_by entries_at d.lines))

abbrev pub counts_text : Dumped → List ℕ
counts_text d = count_line (codes "epoch ") d.epoch ++ resources_text d ++ content_text d
