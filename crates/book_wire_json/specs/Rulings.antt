-- What the report effective says (own profile). The keys of an object stand in byte order.
use Rattle.std.specs.Prelude.{List, map, codes}
use Rattle.serde_json.specs.Data.{Data, boolean, string, array, object, member, no_members}
use Rattle.serde_json.specs.View.{items_of}
use Rattle.book_rights.specs.Privileges.{leaf_name}
use Rattle.book_office_listings.specs.declared.messages.Ruling.{Ruling}
use Rattle.book_wire_json.specs.Denials.{entry_data}

-- {"entry":ENTRY,"grant":BOOL,"privilege":LEAF}: the entry that decides the leaf, and whether it grants it
abbrev pub ruling_data : Ruling → Data
ruling_data ruling =
    object (member (codes "entry") (entry_data ruling.entry)
    (member (codes "grant") (boolean ruling.grant)
    (member (codes "privilege") (string (leaf_name ruling.leaf)) no_members)))

-- {"leaves":[RULING, ..]}
abbrev pub rulings_data : List Ruling → Data
rulings_data rulings = object (member (codes "leaves") (array (items_of (map ruling_data rulings))) no_members)
