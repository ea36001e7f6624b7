-- The body of a PROPFIND: {"prop":[NAME, ..]} with 1 to 7 different names of properties (RFC 4918, section 9.1).
use Rattle.std.specs.Prelude.{ℕ, if◌then◌else◌, List, [], ◌∷◌, ◌++◌, codes, Option, Some, None, option_and_then}
use Rattle.std.specs.Str.{bytes_eq}
use Rattle.serde_json.specs.Data.{Data}
use Rattle.book_machine.specs.declared.messages.Body.{Body}
use Rattle.book_machine.specs.declared.messages.Body.TheVariants as body
use Rattle.book_office_listings.specs.Properties.{is_asked}
use Rattle.book_office_listings.specs.declared.messages.Property.{Property}
use Rattle.book_office_listings.specs.declared.messages.Property.TheVariants.{DisplayName, ResourceType, Owner, Acl, CurrentUserPrivilegeSet, GroupMemberSet, SyncToken}
use Rattle.book_wire_json.specs.Forms.{only_under, texts_in}

-- names are compared with case
abbrev pub property_named : List ℕ → Option Property
property_named name =
    if bytes_eq name (codes "displayname") then Some DisplayName else (
    if bytes_eq name (codes "resourcetype") then Some ResourceType else (
    if bytes_eq name (codes "owner") then Some Owner else (
    if bytes_eq name (codes "acl") then Some Acl else (
    if bytes_eq name (codes "current-user-privilege-set") then Some CurrentUserPrivilegeSet else (
    if bytes_eq name (codes "group-member-set") then Some GroupMemberSet else (
    if bytes_eq name (codes "sync-token") then Some SyncToken else None))))))

-- the properties that were found, and those that the names after them have, if all are known and different
abbrev pub properties_after : List Property → List (List ℕ) → Option (List Property)
properties_after found [] = Some found
properties_after found (name ∷ names) =
    option_and_then (λ p. if is_asked p found then None else properties_after (found ++ p ∷ []) names)
    (property_named name)

abbrev pub if_any : List Property → Option (List Property)
if_any [] = None
if_any (p ∷ ps) = Some (p ∷ ps)

-- the different properties with these names, at least one
abbrev pub properties_of : List (List ℕ) → Option (List Property)
properties_of names = option_and_then if_any (properties_after [] names)

-- what the value asks for
abbrev pub properties_asked : Data → Option (List Property)
properties_asked d = option_and_then properties_of (option_and_then texts_in (only_under (codes "prop") d))

abbrev pub found_body : Option (List Property) → Body
found_body None = body.Unread
found_body (Some properties) = body.Find properties

abbrev pub find_body : Option Data → Body
find_body d = found_body (option_and_then properties_asked d)
