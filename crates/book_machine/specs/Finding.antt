-- What a PROPFIND asks (RFC 4918, section 9.1).
use Rattle.std.specs.Prelude.{Bool, true, not, ◌&&◌, List, [], ◌∷◌, length, nat_le}
use Rattle.book_limits.specs.declared.TheConstants.{MAX_PROPERTIES}
use Rattle.book_rights.specs.Needs.{read_and}
use Rattle.book_rights.specs.declared.privileges.Leaf.{Leaf}
use Rattle.book_office_listings.specs.Properties.{is_asked}
use Rattle.book_office_listings.specs.declared.messages.Extent.{Extent}
use Rattle.book_office_listings.specs.declared.messages.Find.{Find}
use Rattle.book_office_listings.specs.declared.messages.Property.{Property}
use Rattle.book_office_listings.specs.declared.messages.Property.TheVariants.{DisplayName, ResourceType, Owner, Acl, CurrentUserPrivilegeSet}

-- whether no property is asked for twice
abbrev pub are_different : List Property → Bool
are_different [] = true
are_different (p ∷ rest) = not (is_asked p rest) && are_different rest

-- 1 to 7 different properties
abbrev pub may_be_asked : List Property → Bool
may_be_asked properties = nat_le 1 (length properties) && (nat_le (length properties) MAX_PROPERTIES && are_different properties)

-- what is asked for where the body is empty (own profile)
abbrev pub usual_properties : List Property
usual_properties = DisplayName ∷ ResourceType ∷ Owner ∷ []

-- what is needed of each resource of which the listing tells: `read`, and with it `read-acl` and
-- `read-current-user-privilege-set` where those properties are asked for (RFC 3744, sections 5.4 and 5.5)
abbrev pub needed_for : List Property → Leaf → Bool
needed_for properties leaf = read_and (is_asked Acl properties) (is_asked CurrentUserPrivilegeSet properties) leaf

abbrev pub find_of : Extent → List Property → Find
find_of extent properties = record { needed = needed_for properties; extent = extent; properties = properties }
