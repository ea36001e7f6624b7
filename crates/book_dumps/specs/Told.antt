-- What a dump tells of the resource at a path.
use Rattle.std.specs.Prelude.{ℕ, List, [], ◌∷◌, map, length, ◌-◌, slice_get, Option, Some, None, option_map}
use Rattle.std.specs.FinMap.{from_entries, keys}
use Rattle.std.specs.FinSet as set
use Rattle.std.specs.List.{filter_map}
use Rattle.book_lists.specs.Memberships.{Memberships, members_of}
use Rattle.book_lists.specs.Principals.{group_path, path_cmp}
use Rattle.book_lists.specs.declared.memberships.Membership.{Membership}
use Rattle.book_office.specs.Resources.{Resource, changed_after, resource_at}
use Rattle.book_office.specs.declared.nodes.Changed.{Changed}
use Rattle.book_office.specs.declared.nodes.Level.{Level}
use Rattle.book_office.specs.declared.nodes.Node.{Node}
use Rattle.book_office_values.specs.Changes.{above}
use Rattle.book_office_values.specs.declared.offices.Office.{Office}
use Rattle.book_office_values.specs.declared.offices.StoredCard.{StoredCard}
use Rattle.book_office_values.specs.declared.paths.Path.{Path}
use Rattle.book_office_values.specs.declared.paths.Path.TheVariants as path
use Rattle.book_dumps.specs.Lines.{line_text}
use Rattle.book_dumps.specs.declared.lines.Line.{Line}
use Rattle.book_dumps.specs.declared.lines.Removed.{Removed}

-- texts in byte order, each once
abbrev pub in_order : List (List ℕ) → List (List ℕ)
in_order texts = keys (from_entries {R = path_cmp} (map (λ (text : List ℕ). (text, tt {0})) texts))

-- the members of pairs, in byte order
abbrev pub members_told : Memberships → List (List ℕ)
members_told pairs = in_order (map (λ (m : Membership). m.member) (set.items pairs))

-- the direct members of a group, in byte order
abbrev pub members_in : Office → List ℕ → List (List ℕ)
members_in o group = members_told (members_of o.pairs group)

-- the direct members of a group; other resources have none
abbrev pub members_at : Office → Path → List (List ℕ)
members_at o path.Root = []
members_at o path.People = []
members_at o path.Groups = []
members_at o path.Books = []
members_at o (path.Person n) = []
members_at o (path.Group n) = members_in o (group_path n)
members_at o (path.Book b) = []
members_at o (path.Card b c) = []

-- a name that changed and has no card is removed
abbrev pub unless_there : Option StoredCard → Removed → Option Removed
unless_there None removed = Some removed
unless_there (Some card) removed = None

abbrev pub if_removed : Changed → Option Removed
if_removed c = unless_there c.card (record { name = c.name; number = c.number })

abbrev pub removed_among : List Changed → List Removed
removed_among changes = filter_map if_removed changes

-- the removed names of a book whose last changes are above a number, in order of number
abbrev pub removed_after : Office → List ℕ → ℕ → List Removed
removed_after o b n = removed_among (changed_after o b n)

-- the number of the last of some changes
abbrev pub last_told : List Changed → Option ℕ
last_told changes = option_map (λ (c : Changed). c.number) (slice_get changes (length changes - 1))

-- the number of the last change, if it is above a number
abbrev pub last_above : ℕ → List Changed → Option ℕ
last_above n changes = above n (last_told changes)

-- the removed names of a book, in order of number; other resources have none
abbrev pub removed_in : Office → Path → List Removed
removed_in o path.Root = []
removed_in o path.People = []
removed_in o path.Groups = []
removed_in o path.Books = []
removed_in o (path.Person n) = []
removed_in o (path.Group n) = []
removed_in o (path.Book b) = removed_after o b 0
removed_in o (path.Card b c) = []

-- books and cards alone have numbers
abbrev pub number_told : Path → ℕ → Option ℕ
number_told path.Root n = None
number_told path.People n = None
number_told path.Groups n = None
number_told path.Books n = None
number_told (path.Person name) n = None
number_told (path.Group name) n = None
number_told (path.Book b) n = Some n
number_told (path.Card b c) n = Some n

-- what is told of a resource, from what a keeper tells
abbrev pub line_with : Path → Level → List (List ℕ) → List Removed → Node → Line
line_with p level members removed node = record {
  path = p;
  owner = node.owner;
  label = node.label;
  protected = level.protected;
  own = level.own;
  members = members;
  number = number_told p node.number;
  removed = removed;
  text = node.text;
}

-- what is told of a resource at a path
abbrev pub line_of : Office → Path → Resource → Line
line_of o p r = record {
  path = p;
  owner = r.owner;
  label = r.label;
  protected = r.protected;
  own = r.own;
  members = members_at o p;
  number = number_told p r.number;
  removed = removed_in o p;
  text = r.text;
}

-- what is told of the resource at a path; none where none is mapped
abbrev pub line_at : Office → Path → Option Line
line_at o p = option_map (line_of o p) (resource_at o p)

-- its line of text, if there is one
abbrev pub texts_of : Option Line → List (List ℕ)
texts_of None = []
texts_of (Some l) = line_text l ∷ []

abbrev pub texts_at : Office → Path → List (List ℕ)
texts_at o p = texts_of (line_at o p)
