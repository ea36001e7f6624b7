-- The Office of the rows: its maps are built of the rows of each sort.
use Rattle.book_tables_opening.proofs.Common.{◌≡◌, ℕ, Bool, true, false, cond, ◌&&◌, List, [], find, Option, None, option_map, unwrap_or, refl, sym, ◌∙◌, get, empty, get-empty, AllByRecursion, option_or, Value, Null, Int, Real, Text, Blob, Row, rowid, Memberships, name_cmp, NamesTo, path_text, Book, Office, Properties, StoredCard, gone_book_place, gone_name, gone_name_place, gone_number, node_number, node_text, number_in, text_in, Rows, has, is_gone, list_in, row_at, whole_nodes, is_text_of}
use Rattle.std.specs.Cmp.{eq_by_cmp_equiv}
use Rattle.std.specs.Cmp.Lexicographic.{nat_list_cmp_total}
use Rattle.book_office_values.specs.Fresh.{empty_properties}
use Rattle.book_office_values.specs.declared.paths.Path.TheVariants as path
use Rattle.book_tables_rows.specs.Columns.{node_label, node_owner}
use Rattle.book_tables.proofs.RowFacts.{or_none}
use Rattle.book_tables_opening.proofs.ShownNodes.{equal_text}
use Rattle.book_tables_opening.proofs.NamedMaps.{is_named, named_over, got_named}
use Rattle.book_tables_opening.proofs.PlacedRows.{IsNodeShown, persons, groups, books, cards, map_over}

-- what a row gives as that of a resource other than a card, and as that of a card
abbrev pub properties_of : List Row → Row → Properties
properties_of entries row = record { owner = text_in (node_owner row); label = unwrap_or (text_in (node_label row)) []; protected = list_in entries (rowid row) true; own = list_in entries (rowid row) false }

abbrev pub card_of : List Row → Row → StoredCard
card_of entries row = record { owner = text_in (node_owner row); label = unwrap_or (text_in (node_label row)) []; own = list_in entries (rowid row) false; text = unwrap_or (text_in (node_text row)) [] }

-- ---- removed names

-- the name that a row of `gone` has as one of the book with a number
abbrev pub name_in_book : Value → Row → Option (List ℕ)
name_in_book id row = cond (has gone_book_place id row) (text_in (gone_name row)) None

abbrev pub change_number : List ℕ → Row → ℕ
change_number name row = number_in (gone_number row)

abbrev pub names_gone : List Row → Value → NamesTo ℕ
names_gone gone id = named_over (name_in_book id) change_number empty gone

text_named : (name : List ℕ) (v : Value) → is_named name (text_in v) ≡ is_text_of name v
text_named name Null = refl
text_named name (Int n) = refl
text_named name (Real x) = refl
text_named name (Text t) = (eq_by_cmp_equiv nat_list_cmp_total).symm name t
text_named name (Blob b) = refl

is_gone_name : (id : Value) (name : List ℕ) (row : Row) → is_named name (name_in_book id row) ≡ is_gone id name row
is_gone_name id name row = in_book (has gone_book_place id row)
  where
    in_book : (b : Bool) → is_named name (cond b (text_in (gone_name row)) None) ≡ (b && has gone_name_place (Text name) row)
    in_book true = text_named name (gone_name row) ∙ sym (equal_text name (gone_name row))
    in_book false = refl

-- the removed names of a book have the numbers of the rows that are found
pub names_gone_are : (gone : List Row) (id : Value) (name : List ℕ) → get (names_gone gone id) name ≡ option_map (λ row. number_in (gone_number row)) (find (is_gone id name) gone)
names_gone_are gone id name =
    got_named (name_in_book id) change_number empty name gone
    ∙ (λ i. option_or (option_map (change_number name) (find (λ row. is_gone_name id name row i) gone)) (get-empty {X = ℕ} name_cmp name i))
    ∙ or_none (option_map (change_number name) (find (is_gone id name) gone))

-- ---- the maps

module _ (rows : Rows) (each : AllByRecursion (IsNodeShown (whole_nodes rows)) rows.nodes) where
  abbrev nodes : List Row
  nodes = whole_nodes rows

  abbrev pub persons_in : NamesTo Properties
  persons_in = map_over nodes persons (λ name. properties_of rows.entries) rows.nodes each empty

  abbrev pub groups_in : NamesTo Properties
  groups_in = map_over nodes groups (λ name. properties_of rows.entries) rows.nodes each empty

  abbrev pub cards_in : List ℕ → NamesTo StoredCard
  cards_in b = map_over nodes (cards b) (λ name. card_of rows.entries) rows.nodes each empty

  -- the last changes: those of the cards, over those of the removed names
  abbrev pub last_in : List ℕ → Value → NamesTo ℕ
  last_in b id = map_over nodes (cards b) (λ name row. number_in (node_number row)) rows.nodes each (names_gone rows.gone id)

  abbrev pub book_of : List ℕ → Row → Book
  book_of b row = record { properties = properties_of rows.entries row; cards = cards_in b; changes = record { number = number_in (node_number row); last = last_in b (rowid row) } }

  abbrev pub books_in : NamesTo Book
  books_in = map_over nodes books book_of rows.nodes each empty

  abbrev pub home_at : List ℕ → Properties
  home_at t = unwrap_or (option_map (properties_of rows.entries) (row_at rows t)) (empty_properties None)

  abbrev pub office_of : Memberships → ℕ → Office
  office_of pairs epoch = record {
    root = home_at (path_text path.Root);
    people = home_at (path_text path.People);
    groups_home = home_at (path_text path.Groups);
    books_home = home_at (path_text path.Books);
    persons = persons_in;
    groups = groups_in;
    books = books_in;
    pairs = pairs;
    epoch = epoch;
  }
