-- Which properties are asked for (RFC 4918, section 9.1).
use Rattle.std.specs.Prelude.{ℕ, Bool, ◌==◌, List}
use Rattle.std.specs.List.{list_any}
use Rattle.book_office_listings.specs.declared.messages.Property.{Property}
use Rattle.book_office_listings.specs.declared.messages.Property.TheVariants.{DisplayName, ResourceType, Owner, Acl, CurrentUserPrivilegeSet, GroupMemberSet, SyncToken}

-- each property has a number of its own
abbrev pub property_number : Property → ℕ
property_number DisplayName = 0
property_number ResourceType = 1
property_number Owner = 2
property_number Acl = 3
property_number CurrentUserPrivilegeSet = 4
property_number GroupMemberSet = 5
property_number SyncToken = 6

abbrev pub is_same : Property → Property → Bool
is_same p q = property_number p == property_number q

-- whether a property is asked for
abbrev pub is_asked : Property → List Property → Bool
is_asked p properties = list_any (is_same p) properties
