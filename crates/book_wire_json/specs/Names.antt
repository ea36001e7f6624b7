-- What the report names says (own profile). The keys of an object stand in byte order.
use Rattle.std.specs.Prelude.{ℕ, List, map, codes, Option, Some, None}
use Rattle.serde_json.specs.Data.{Data, null, string, array, object, member, no_members}
use Rattle.serde_json.specs.View.{items_of}
use Rattle.book_office_members.specs.declared.names.NamedCard.{NamedCard}
use Rattle.book_office_values.specs.Paths.{card_path}

-- the name that a card says; null where its text is no card
abbrev pub formatted_data : Option (List ℕ) → Data
formatted_data None = null
formatted_data (Some name) = string name

-- {"fn":NAME,"href":PATH}: a card of a book
abbrev pub named_data : List ℕ → NamedCard → Data
named_data book card =
    object (member (codes "fn") (formatted_data card.formatted) (member (codes "href") (string (card_path book card.name)) no_members))

-- {"names":[CARD, ..]}
abbrev pub names_data : List ℕ → List NamedCard → Data
names_data book names = object (member (codes "names") (array (items_of (map (named_data book) names))) no_members)
