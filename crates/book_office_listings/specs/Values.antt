-- The values of properties (RFC 4918, section 15; RFC 3744, sections 4 and 5; RFC 6578, section 4).
use Rattle.std.specs.Prelude.{ℕ, Bool, List, [], ◌∷◌, ◌++◌, map, filter, length, nat_lt, if◌then◌else◌, Option, Some, None}
use Rattle.std.specs.List.{filter_map}
use Rattle.std.specs.Str.{bytes_eq}
use Rattle.book_rights.specs.declared.privileges.Leaf.{Leaf}
use Rattle.book_rights.specs.declared.privileges.Privilege.{Privilege}
use Rattle.book_rights.specs.declared.privileges.Privilege.TheVariants.{One, Read, Write, All}
use Rattle.book_lists_explain.specs.ShortNames.{all_leaves, has_all, has_read, has_write, short_list}
use Rattle.book_lists.specs.Circles.{CircleOf}
use Rattle.book_lists.specs.Principals.{group_path}
use Rattle.book_lists.specs.declared.entries.Here.{Here}
use Rattle.book_lists.specs.declared.memberships.Membership.{Membership}
use Rattle.book_office_values.specs.declared.paths.Path.{Path}
use Rattle.book_office_values.specs.declared.paths.Path.TheVariants as path
use Rattle.book_office_values.specs.Paths.{levels}
use Rattle.book_office.specs.declared.nodes.EffectiveEntry.{EffectiveEntry}
use Rattle.book_office_sync.specs.Copies.{grants}
use Rattle.book_office_sync.specs.declared.messages.Token.{Token}
use Rattle.book_office_listings.specs.Verdicts.{bare_entries}
use Rattle.book_office_listings.specs.declared.messages.AclEntry.{AclEntry}
use Rattle.book_office_listings.specs.declared.messages.Property.{Property}
use Rattle.book_office_listings.specs.declared.messages.Property.TheVariants as property
use Rattle.book_office_listings.specs.declared.messages.PropertyValue.{PropertyValue}
use Rattle.book_office_listings.specs.declared.messages.PropertyValue.TheVariants as value
use Rattle.book_office_listings.specs.declared.subjects.Subject.{Subject}
use Rattle.book_office_listings.specs.declared.subjects.Whole.{Whole}

-- how many resources there are from the root down to a path
abbrev pub depth_of : Path → ℕ
depth_of p = length (levels p)

-- where an entry in force at a path stands, if it stands at an ancestor: each ancestor has a smaller depth
abbrev pub inherited_from : Path → Path → Option Path
inherited_from p from = if nat_lt (depth_of from) (depth_of p) then Some from else None

-- an entry of the effective list of a resource, as the property `acl` tells it
abbrev pub acl_entry : Path → EffectiveEntry → AclEntry
acl_entry p e = record {
  who = e.entry.who;
  invert = e.entry.invert;
  deny = e.entry.deny;
  privileges = short_list e.entry.set;
  protected = e.protected;
  inherited = inherited_from p e.path;
}

-- whether every leaf of a privilege is in the set
abbrev pub is_whole : (Leaf → Bool) → Privilege → Bool
is_whole set (One leaf) = set leaf
is_whole set Read = has_read set
is_whole set Write = has_write set
is_whole set All = has_all set

abbrev pub if_whole : Bool → Privilege → List Privilege
if_whole whole name = if whole then name ∷ [] else []

abbrev pub if_granted : (Leaf → Bool) → Leaf → Option Privilege
if_granted set leaf = if set leaf then Some (One leaf) else None

-- `all` where every leaf is in the set, `read` and `write` where each of their leaves is, and then each leaf of the set in order
abbrev pub current_privileges : (Leaf → Bool) → List Privilege
current_privileges set =
    if_whole (is_whole set All) All ++ (if_whole (is_whole set Read) Read ++ (if_whole (is_whole set Write) Write ++ filter_map (if_granted set) all_leaves))

-- the leaves that the first entry which applies and holds them grants
abbrev pub granted_by : List EffectiveEntry → CircleOf → Here → Leaf → Bool
granted_by list circle here leaf = grants (bare_entries list) circle here leaf

-- the members of the pairs that have a group
abbrev pub members_in : List Membership → List ℕ → List (List ℕ)
members_in pairs group = map (λ (m : Membership). m.member) (filter (λ (m : Membership). bytes_eq m.group group) pairs)

-- the direct members of a group; other resources have none
abbrev pub members_told : List Membership → Path → Option (List (List ℕ))
members_told pairs path.Root = None
members_told pairs path.People = None
members_told pairs path.Groups = None
members_told pairs path.Books = None
members_told pairs (path.Person n) = None
members_told pairs (path.Group n) = Some (members_in pairs (group_path n))
members_told pairs (path.Book b) = None
members_told pairs (path.Card b c) = None

-- the token of a book, by the access epoch and the book's number; other resources have none
abbrev pub token_told : ℕ → ℕ → Path → Option Token
token_told epoch number path.Root = None
token_told epoch number path.People = None
token_told epoch number path.Groups = None
token_told epoch number path.Books = None
token_told epoch number (path.Person n) = None
token_told epoch number (path.Group n) = None
token_told epoch number (path.Book b) = Some (record { book = b; epoch = epoch; number = number })
token_told epoch number (path.Card b c) = None

-- the value of a property of the resource at a path, by the entries in force there
abbrev pub value_of : Whole → CircleOf → Path → Subject → List EffectiveEntry → Property → PropertyValue
value_of whole circle p s list property.DisplayName = value.DisplayName s.label
value_of whole circle p s list property.ResourceType = value.ResourceType s.kind
value_of whole circle p s list property.Owner = value.Owner s.here.owner
value_of whole circle p s list property.Acl = value.Acl (map (acl_entry p) list)
value_of whole circle p s list property.CurrentUserPrivilegeSet = value.CurrentUserPrivilegeSet (current_privileges (granted_by list circle s.here))
value_of whole circle p s list property.GroupMemberSet = value.GroupMemberSet (members_told whole.memberships p)
value_of whole circle p s list property.SyncToken = value.SyncToken (token_told whole.epoch s.number p)
