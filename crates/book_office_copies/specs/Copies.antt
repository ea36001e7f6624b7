-- What is read of a keeper, put together: an Office. Of a sound Office it is that Office.
use Rattle.std.specs.Prelude.{ℕ, List, [], ◌∷◌, map, Option, Some, None, option_map, unwrap_or}
use Rattle.std.specs.FinMap.{empty, insert}
use Rattle.book_office.specs.Resources.{Resource, changed_after, children_at, resource_at}
use Rattle.book_office.specs.declared.nodes.Changed.{Changed}
use Rattle.book_office.specs.declared.nodes.Level.{Level}
use Rattle.book_office.specs.declared.nodes.Listed.{Listed}
use Rattle.book_office.specs.declared.nodes.Node.{Node}
use Rattle.book_lists.specs.Memberships.{Memberships}
use Rattle.book_office_adopting.specs.TakingOver.{all_inserted}
use Rattle.book_office_values.specs.Fresh.{empty_properties}
use Rattle.book_office_values.specs.Names.{NamesTo}
use Rattle.book_office_values.specs.declared.collections.changes.Numbers.{Numbers}
use Rattle.book_office_values.specs.declared.offices.Book.{Book}
use Rattle.book_office_values.specs.declared.offices.Office.{Office}
use Rattle.book_office_values.specs.declared.offices.Properties.{Properties}
use Rattle.book_office_values.specs.declared.offices.StoredCard.{StoredCard}
use Rattle.book_office_values.specs.declared.paths.Path.{Path}
use Rattle.book_office_values.specs.declared.paths.Path.TheVariants as path
use Rattle.book_office_copies.specs.declared.books.NamedBook.{NamedBook}
use Rattle.book_office_copies.specs.declared.copying.Homes.{Homes}
use Rattle.book_office_copies.specs.declared.copying.Maps.{Maps}

-- ---- a resource other than a card

-- what a keeper tells of it, where it is there
abbrev pub place_with : Option Node → Level → Properties
place_with None level = empty_properties None
place_with (Some node) level = record { owner = node.owner; label = node.label; protected = level.protected; own = level.own }

abbrev pub properties_of : Resource → Properties
properties_of r = record { owner = r.owner; label = r.label; protected = r.protected; own = r.own }

abbrev pub place_told : Office → Path → Properties
place_told o p = unwrap_or (option_map properties_of (resource_at o p)) (empty_properties None)

-- what a listing tells of it
abbrev pub properties_listed : Listed → Properties
properties_listed l = record { owner = l.owner; label = l.label; protected = l.protected; own = l.own }

abbrev pub listed_place : Listed → List ℕ × Properties
listed_place l = (l.name, properties_listed l)

abbrev pub as_it_is : {V : Type 0} → List ℕ → V → V
as_it_is name v = v

-- the persons or the groups
abbrev pub principals_told : Office → Path → NamesTo Properties
principals_told o home = all_inserted as_it_is empty (map listed_place (children_at o home))

-- ---- a book

abbrev pub numbered : ℕ → NamesTo ℕ → Numbers
numbered number last = record { number = number; last = last }

-- the last changes with these, each of which has a number
abbrev pub lasts_in : NamesTo ℕ → List Changed → NamesTo ℕ
lasts_in last [] = last
lasts_in last (c ∷ cs) = lasts_in (insert last c.name c.number) cs

abbrev pub with_card : NamesTo StoredCard → List ℕ → Option StoredCard → NamesTo StoredCard
with_card cards name None = cards
with_card cards name (Some card) = insert cards name card

-- the cards with those of names that changed
abbrev pub cards_in : NamesTo StoredCard → List Changed → NamesTo StoredCard
cards_in cards [] = cards
cards_in cards (c ∷ cs) = cards_in (with_card cards c.name c.card) cs

abbrev pub book_told : Listed → List Changed → Book
book_told l changes = record {
  properties = properties_listed l;
  cards = cards_in empty changes;
  changes = numbered l.number (lasts_in empty changes);
}

abbrev pub named_book : Office → Listed → NamedBook
named_book o l = record { name = l.name; book = book_told l (changed_after o l.name 0) }

abbrev pub named_entry : NamedBook → List ℕ × Book
named_entry named = (named.name, named.book)

abbrev pub books_told : Office → NamesTo Book
books_told o = all_inserted as_it_is empty (map named_entry (map (named_book o) (children_at o path.Books)))

-- a book without its cards and their changes
abbrev pub bare_listed : Listed → Book
bare_listed l = record { properties = properties_listed l; cards = empty; changes = record { number = 0; last = empty } }

abbrev pub bare_entry : Listed → List ℕ × Book
bare_entry l = (l.name, bare_listed l)

abbrev pub bare_books_told : Office → NamesTo Book
bare_books_told o = all_inserted as_it_is empty (map bare_entry (children_at o path.Books))

-- ---- the Office

abbrev pub homes_told : Office → Homes
homes_told o = record {
  root = place_told o path.Root;
  people = place_told o path.People;
  groups_home = place_told o path.Groups;
  books_home = place_told o path.Books;
}

abbrev pub maps_told : Office → Maps
maps_told o = record {
  persons = principals_told o path.People;
  groups = principals_told o path.Groups;
  books = books_told o;
}

abbrev pub bare_maps_told : Office → Maps
bare_maps_told o = record {
  persons = principals_told o path.People;
  groups = principals_told o path.Groups;
  books = bare_books_told o;
}

abbrev pub office_of : Homes → Maps → Memberships → ℕ → Office
office_of homes maps pairs epoch = record {
  root = homes.root;
  people = homes.people;
  groups_home = homes.groups_home;
  books_home = homes.books_home;
  persons = maps.persons;
  groups = maps.groups;
  books = maps.books;
  pairs = pairs;
  epoch = epoch;
}

-- what is read of an Office, with these persons, groups and books
abbrev pub office_with : Office → Maps → Office
office_with o maps = office_of (homes_told o) maps o.pairs o.epoch
