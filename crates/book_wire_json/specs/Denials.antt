-- Denials (RFC 3744, section 7.1.1; own profile). The keys of an object stand in byte order.
use Rattle.std.specs.Prelude.{codes, Option, Some, None}
use Rattle.serde_json.specs.Data.{Data, null, number, string, object, member, no_members, unsigned}
use Rattle.book_rights.specs.Privileges.{name_of}
use Rattle.book_office_values.specs.Paths.{path_text}
use Rattle.book_office_listings.specs.declared.messages.DecidingEntry.{DecidingEntry}
use Rattle.book_office_listings.specs.declared.messages.Denial.{Denial}

-- {"from":PATH,"number":N}: where the entry stands, and its place in the effective list, from 1; null where no entry
-- decides
abbrev pub entry_data : Option DecidingEntry → Data
entry_data None = null
entry_data (Some entry) =
    object (member (codes "from") (string (path_text entry.from))
    (member (codes "number") (number (unsigned entry.number)) no_members))

-- {"entry":E,"privilege":LEAF,"resource":PATH}
abbrev pub denial_data : Denial → Data
denial_data denial =
    object (member (codes "entry") (entry_data denial.entry)
    (member (codes "privilege") (string (name_of denial.privilege))
    (member (codes "resource") (string (path_text denial.resource)) no_members)))
