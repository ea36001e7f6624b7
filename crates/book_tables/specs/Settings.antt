-- What is written of an own list.
use Rattle.std.specs.Prelude.{ℕ, List, Option, Some, None}
use Rattle.book_rights.specs.Leaves.{mask_of}
use Rattle.book_lists.specs.declared.entries.Entry.{Entry}
use Rattle.book_lists.specs.declared.entries.Who.{Who}
use Rattle.book_lists.specs.declared.entries.Who.TheVariants.{Href, Everyone, Authenticated, Unauthenticated, Owner, Own}
use Rattle.book_tables_rows.specs.Writes.{Said}
use Rattle.book_tables.specs.Rows.{form_code}

-- the path of a path's form; none of every other
abbrev pub principal_said : Who → Option (List ℕ)
principal_said (Href principal) = Some principal
principal_said Everyone = None
principal_said Authenticated = None
principal_said Unauthenticated = None
principal_said Owner = None
principal_said Own = None

-- what the row of an entry says
abbrev pub entry_said : Entry → Said
entry_said e = record { form = form_code e.who; principal = principal_said e.who; invert = e.invert; deny = e.deny; mask = mask_of e.set }
