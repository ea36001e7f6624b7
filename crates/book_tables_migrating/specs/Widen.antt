-- What becomes of an Office of version 1, whose entries know eight leaves (own profile).
use Rattle.std.specs.Prelude.{map}
use Rattle.book_lists.specs.declared.entries.Entry.{Entry}
use Rattle.book_lists.specs.Widening.{widened_entry}
use Rattle.book_office_values.specs.declared.offices.Book.{Book}
use Rattle.book_office_values.specs.declared.offices.Office.{Office}
use Rattle.book_office_values.specs.declared.offices.Properties.{Properties}
use Rattle.book_office_values.specs.declared.offices.StoredCard.{StoredCard}
use Rattle.book_office_adopting.specs.Adopting.{mapped}

-- each entry of each list is changed, and nothing else
abbrev pub properties_with : (Entry → Entry) → Properties → Properties
properties_with change its = record its { protected = map change its.protected; own = map change its.own }

abbrev pub card_with : (Entry → Entry) → StoredCard → StoredCard
card_with change card = record card { own = map change card.own }

abbrev pub book_with : (Entry → Entry) → Book → Book
book_with change book = record book { properties = properties_with change book.properties; cards = mapped (λ _ card. card_with change card) book.cards }

abbrev pub office_with : (Entry → Entry) → Office → Office
office_with change o = record o {
  root = properties_with change o.root;
  people = properties_with change o.people;
  groups_home = properties_with change o.groups_home;
  books_home = properties_with change o.books_home;
  persons = mapped (λ _ its. properties_with change its) o.persons;
  groups = mapped (λ _ its. properties_with change its) o.groups;
  books = mapped (λ _ book. book_with change book) o.books;
}

-- each entry that has `x-read-texts` has `x-read-names` too
abbrev pub widen : Office → Office
widen = office_with widened_entry
