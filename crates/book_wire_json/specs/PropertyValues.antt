-- Properties as JSON (RFC 4918, section 15; RFC 3744, sections 4 and 5; RFC 6578, section 4; own profile).
use Rattle.std.specs.Prelude.{ℕ, Bool, true, false, List, [], ◌∷◌, ◌++◌, map, codes, Option, Some, None}
use Rattle.std.specs.Borrow.{Bor}
use Rattle.serde_json.specs.Data.{Data, null, boolean, string, array, object, Members, no_members, put}
use Rattle.serde_json.specs.View.{items_of}
use Rattle.book_rights.specs.Privileges.{name_of}
use Rattle.book_rights.specs.declared.privileges.Privilege.{Privilege}
use Rattle.book_lists.specs.declared.entries.Who.{Who}
use Rattle.book_lists.specs.declared.entries.Who.TheVariants as form
use Rattle.book_office_values.specs.Paths.{path_text}
use Rattle.book_office_values.specs.declared.paths.Kind.{Kind}
use Rattle.book_office_values.specs.declared.paths.Kind.TheVariants as kind
use Rattle.book_office_values.specs.declared.paths.Path.{Path}
use Rattle.book_office_sync.specs.Tokens.{token_text}
use Rattle.book_office_sync.specs.declared.messages.Token.{Token}
use Rattle.book_wire_json.specs.Writing.{members_of}
use Rattle.book_wire_json.specs.declared.property_values.LastValues.{LastValues}
use Rattle.book_office_listings.specs.declared.messages.AclEntry.{AclEntry}
use Rattle.book_office_listings.specs.declared.messages.PropertyValue.{PropertyValue}
use Rattle.book_office_listings.specs.declared.messages.PropertyValue.TheVariants as value

-- a principal form: the path of a principal, or a word
abbrev pub form_text : Who → List ℕ
form_text (form.Href path) = path
form_text form.Everyone = codes "all"
form_text form.Authenticated = codes "authenticated"
form_text form.Unauthenticated = codes "unauthenticated"
form_text form.Owner = codes "owner"
form_text form.Own = codes "self"

abbrev pub kind_name : Kind → List ℕ
kind_name kind.Root = codes "root"
kind_name kind.Home = codes "home"
kind_name kind.Person = codes "person"
kind_name kind.Group = codes "group"
kind_name kind.Book = codes "book"
kind_name kind.Card = codes "card"

abbrev pub privilege_data : Privilege → Data
privilege_data privilege = string (name_of privilege)

-- [NAME, ..]
abbrev pub privileges_data : List Privilege → Data
privileges_data privileges = array (items_of (map privilege_data privileges))

abbrev pub action_key : Bool → List ℕ
action_key true = codes "deny"
action_key false = codes "grant"

abbrev pub form_key : Bool → List ℕ
form_key true = codes "invert"
form_key false = codes "principal"

-- where an entry stands that is inherited
abbrev pub inherited_member : Option Path → List (List ℕ × Data)
inherited_member None = []
inherited_member (Some from) = (codes "inherited", string (path_text from)) ∷ []

-- the mark of an entry that is protected
abbrev pub protected_member : Bool → List (List ℕ × Data)
protected_member true = (codes "protected", boolean true) ∷ []
protected_member false = []

-- an entry (RFC 3744, section 5.5): `grant` or `deny`, `inherited` where it stands at an ancestor, `principal` or `invert`, and
-- `protected` true where it is protected; keys in byte order
abbrev pub entry_members : AclEntry → List (List ℕ × Data)
entry_members e =
    (action_key e.deny, privileges_data e.privileges) ∷ inherited_member e.inherited
    ++ (form_key e.invert, string (form_text e.who)) ∷ protected_member e.protected

abbrev pub acl_entry_data : AclEntry → Data
acl_entry_data e = object (members_of (entry_members e))

-- [ENTRY, ..]
abbrev pub acl_data : List AclEntry → Data
acl_data entries = array (items_of (map acl_entry_data entries))

-- a text, or null
abbrev pub text_or_null : Option (List ℕ) → Data
text_or_null None = null
text_or_null (Some text) = string text

-- [PATH, ..]
abbrev pub paths_data : List (List ℕ) → Data
paths_data paths = array (items_of (map string paths))

abbrev pub paths_or_null : Option (List (List ℕ)) → Data
paths_or_null None = null
paths_or_null (Some paths) = paths_data paths

abbrev pub token_or_null : Option Token → Data
token_or_null None = null
token_or_null (Some token) = string (token_text token)

-- the name of the property that a value is of
abbrev pub property_name : PropertyValue → List ℕ
property_name (value.DisplayName label) = codes "displayname"
property_name (value.ResourceType kind) = codes "resourcetype"
property_name (value.Owner owner) = codes "owner"
property_name (value.Acl entries) = codes "acl"
property_name (value.CurrentUserPrivilegeSet privileges) = codes "current-user-privilege-set"
property_name (value.GroupMemberSet members) = codes "group-member-set"
property_name (value.SyncToken token) = codes "sync-token"

abbrev pub property_data : PropertyValue → Data
property_data (value.DisplayName label) = string label
property_data (value.ResourceType kind) = string (kind_name kind)
property_data (value.Owner owner) = text_or_null owner
property_data (value.Acl entries) = acl_data entries
property_data (value.CurrentUserPrivilegeSet privileges) = privileges_data privileges
property_data (value.GroupMemberSet members) = paths_or_null members
property_data (value.SyncToken token) = token_or_null token

-- the members, and each value under the name of its property
abbrev pub with_properties : Members → List PropertyValue → Members
with_properties members [] = members
with_properties members (v ∷ vs) = with_properties (put (property_name v) (property_data v) members) vs

-- {NAME:VALUE, ..}
abbrev pub prop_data : List PropertyValue → Data
prop_data values = object (with_properties no_members values)

-- ---- for private clauses: the last value of each property, in the byte order of the names

abbrev pub Slot : Type 0
Slot = List ℕ × Option (Bor PropertyValue)

abbrev pub slots : LastValues → List Slot
slots last =
    (codes "acl", last.acl) ∷ (codes "current-user-privilege-set", last.privileges) ∷ (codes "displayname", last.label)
    ∷ (codes "group-member-set", last.members) ∷ (codes "owner", last.owner) ∷ (codes "resourcetype", last.kind)
    ∷ (codes "sync-token", last.token) ∷ []

-- a member, where there is a value
abbrev pub member_if : List ℕ → Option (Bor PropertyValue) → List (List ℕ × Data)
member_if name None = []
member_if name (Some v) = (name, property_data v.now) ∷ []

abbrev pub present : List Slot → List (List ℕ × Data)
present [] = []
present (s ∷ rest) = member_if s.0 s.1 ++ present rest
