-- What the rows of the tables say: codes and values, entries and lists, and what there is at the text of a path.
use Rattle.std.specs.Prelude.{ℕ, zero, suc, pos, Bool, true, false, nat_eq, ◌&&◌, List, [], ◌∷◌, map, find, option_map, option_and_then, unwrap_or, is_some, Option}
use Rattle.sqlite.specs.declared.types.Value.{Value}
use Rattle.sqlite.specs.declared.types.Value.TheVariants.{Null, Int, Text}
use Rattle.sqlite.specs.Order.{Row}
use Rattle.sqlite.specs.Tree.{rowid}
use Rattle.book_rights.specs.declared.privileges.Leaf.{Leaf}
use Rattle.book_rights.specs.Leaves.{leaves_in, mask_of}
use Rattle.book_lists.specs.declared.entries.Entry.{Entry}
use Rattle.book_lists.specs.declared.entries.Who.{Who}
use Rattle.book_lists.specs.declared.entries.Who.TheVariants.{Href, Everyone, Authenticated, Unauthenticated, Owner, Own}
use Rattle.book_lists.specs.declared.memberships.Membership.{Membership}
use Rattle.book_office_values.specs.declared.paths.Kind.{Kind}
use Rattle.book_office_values.specs.declared.paths.Kind.TheVariants as kind
use Rattle.book_office_values.specs.Paths.{book_path}
use Rattle.book_office.specs.Resources.{Resource}
use Rattle.book_tables_rows.specs.Columns.{ace_deny, ace_form, ace_invert, ace_mask, ace_principal, gone_number, member_group_place, member_member_place, node_kind, node_label, node_number, node_owner, node_text}
use Rattle.book_tables_rows.specs.Nodes.{number_in, text_in}
use Rattle.book_tables_rows.specs.Rows.{Rows, has}
use Rattle.book_tables_rows.specs.Writes.{is_at, is_gone, flag, entries_of}

-- ---- codes and values

-- 1 is true
abbrev pub flag_in : Value → Bool
flag_in value = nat_eq (number_in value) 1

abbrev pub kind_numbered : ℕ → Kind
kind_numbered zero = kind.Root
kind_numbered (suc zero) = kind.Home
kind_numbered (suc (suc zero)) = kind.Person
kind_numbered (suc (suc (suc zero))) = kind.Group
kind_numbered (suc (suc (suc (suc zero)))) = kind.Book
kind_numbered (suc (suc (suc (suc (suc n))))) = kind.Card

abbrev pub kind_in : Value → Kind
kind_in value = kind_numbered (number_in value)

-- ---- entries (RFC 3744, section 5.5)

-- the principal forms by their codes: 0 a path, 1 all, 2 authenticated, 3 unauthenticated, 4 owner, 5 self
abbrev pub form_code : Who → ℕ
form_code (Href principal) = 0
form_code Everyone = 1
form_code Authenticated = 2
form_code Unauthenticated = 3
form_code Owner = 4
form_code Own = 5

-- the principal of a path's form; NULL with every other
abbrev pub principal_value : Who → Value
principal_value (Href principal) = Text principal
principal_value Everyone = Null
principal_value Authenticated = Null
principal_value Unauthenticated = Null
principal_value Owner = Null
principal_value Own = Null

abbrev pub who_numbered : ℕ → Value → Who
who_numbered zero principal = Href (unwrap_or (text_in principal) [])
who_numbered (suc zero) principal = Everyone
who_numbered (suc (suc zero)) principal = Authenticated
who_numbered (suc (suc (suc zero))) principal = Unauthenticated
who_numbered (suc (suc (suc (suc zero)))) principal = Owner
who_numbered (suc (suc (suc (suc (suc n))))) principal = Own

abbrev pub who_in : Value → Value → Who
who_in form principal = who_numbered (number_in form) principal

-- a mask is the set of the leaves whose bits it has, bit 0 being `read`
abbrev pub set_in : Value → Leaf → Bool
set_in mask = leaves_in (number_in mask)

-- the entry that the columns form, principal, invert, deny and mask spell
abbrev pub entry_told : Value → Value → Value → Value → Value → Entry
entry_told form principal invert deny mask = record { who = who_in form principal; invert = flag_in invert; deny = flag_in deny; set = set_in mask }

-- the one way to spell an entry in those columns
abbrev pub entry_values : Entry → Row
entry_values e = Int (pos (form_code e.who)) ∷ principal_value e.who ∷ flag e.invert ∷ flag e.deny ∷ Int (pos (mask_of e.set)) ∷ []

-- the entry of a row of `ace`
abbrev pub entry_of : Row → Entry
entry_of row = entry_told (ace_form row) (ace_principal row) (ace_invert row) (ace_deny row) (ace_mask row)

-- the protected or the own list of the node with a number: its entries in order of their places
abbrev pub list_in : List Row → Value → Bool → List Entry
list_in entries id protected = map entry_of (entries_of entries id protected)

-- ---- resources

-- the resource that a row of `node` gives, with its lists
abbrev pub resource_of : List Row → Row → Resource
resource_of entries row = record {
  kind = kind_in (node_kind row);
  owner = text_in (node_owner row);
  label = unwrap_or (text_in (node_label row)) [];
  text = text_in (node_text row);
  number = number_in (node_number row);
  protected = list_in entries (rowid row) true;
  own = list_in entries (rowid row) false;
}

-- the row of `node` with this text as its path
abbrev pub row_at : Rows → List ℕ → Option Row
row_at rows path = find (is_at path) rows.nodes

-- the resource at the text of a path
abbrev pub resource_in : Rows → List ℕ → Option Resource
resource_in rows path = option_map (resource_of rows.entries) (row_at rows path)

-- ---- members and removed names

abbrev pub is_member : Membership → Row → Bool
is_member m row = has member_group_place (Text m.group) row && has member_member_place (Text m.member) row

-- some row of `member` says that the one is a direct member of the other
abbrev pub has_member : Rows → Membership → Bool
has_member rows m = is_some (find (is_member m) rows.members)

-- the number of a removed name of the book whose row it is, if there is such a row
abbrev pub removed_from : List Row → List ℕ → Option Row → Option ℕ
removed_from gone name book = option_and_then (λ book. option_map (λ row. number_in (gone_number row)) (find (is_gone (rowid book) name) gone)) book

-- the number of a removed name of a book
abbrev pub removed_in : Rows → List ℕ → List ℕ → Option ℕ
removed_in rows b name = removed_from rows.gone name (row_at rows (book_path b))
