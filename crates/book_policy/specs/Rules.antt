-- The rules of a policy's text, each with the fault of a text that breaks it, and the policy of a text that keeps them.
use Rattle.std.specs.Prelude.{◌≡◌, ◌≢◌, ◌≤◌, ◌<◌, ◌⊎◌, ℕ, List, [], ◌∷◌, length, map, codes, Bool, true, false, if◌then◌else◌, Some, None, All}
use Rattle.std.specs.Str.{bytes_eq}
use Rattle.toml.specs.Data.{Members}
use Rattle.toml.specs.Parse.{parse_document}
use Rattle.book_rights.specs.declared.privileges.Leaf.{Leaf}
use Rattle.book_rights.specs.declared.privileges.Privilege.{Privilege}
use Rattle.book_rights.specs.Leaves.{no_leaf, union}
use Rattle.book_rights.specs.Privileges.{contained, name_of}
use Rattle.book_lists.specs.declared.entries.Who.{Who}
use Rattle.book_lists.specs.declared.entries.Who.TheVariants.{Href, Everyone, Authenticated, Unauthenticated, Owner, Own}
use Rattle.book_policy_values.specs.declared.parts.EntryPart.{EntryPart}
use Rattle.book_policy_values.specs.declared.parts.PolicyTables.{PolicyTables}
use Rattle.book_policy_values.specs.Policies.{AreKnown, AreNames, AreOnce, ArePlaces, IsFew, policy_of, spelled}
use Rattle.book_policy_faults.specs.Values.{all_privileges}
use Rattle.book_policy.specs.Shapes.{has_version_one, parts_in}
use Rattle.book_policy.specs.declared.faults.PolicyFault.{PolicyFault}
use Rattle.book_policy.specs.declared.faults.PolicyFault.TheVariants.{NotToml, OtherVersion, BadKey, BadName, NameTwice, UnknownPrincipal, UnknownResource, UnknownPrivilege, TooMany, Memory}
use Rattle.book_policy.specs.declared.parts.EntryText.{EntryText}
use Rattle.book_policy.specs.declared.parts.Parts.{Parts}
use Rattle.book_limits.specs.declared.TheConstants.{MAX_POLICY_BYTES}

-- ---- what an entry says

-- the form of a word (RFC 3744, section 5.5.1); any other text is a path, which one slash at the end may follow
abbrev pub who_of : List ℕ → Who
who_of text =
    if bytes_eq text (codes "all") then Everyone
    else if bytes_eq text (codes "authenticated") then Authenticated
    else if bytes_eq text (codes "unauthenticated") then Unauthenticated
    else if bytes_eq text (codes "owner") then Owner
    else if bytes_eq text (codes "self") then Own
    else Href (spelled text)

-- the leaves of the privilege with the name; none where none of these has it
abbrev pub leaves_named : List Privilege → List ℕ → Leaf → Bool
leaves_named [] name leaf = false
leaves_named (p ∷ ps) name leaf = if bytes_eq name (name_of p) then contained p leaf else leaves_named ps name leaf

-- the leaves of the privileges with these names
abbrev pub leaves_of : List (List ℕ) → Leaf → Bool
leaves_of [] = no_leaf
leaves_of (name ∷ names) = union (leaves_named all_privileges name) (leaves_of names)

abbrev pub entry_part : EntryText → EntryPart
entry_part e = record {
  at = e.at;
  protected = e.protected;
  entry = record { who = who_of e.who; invert = e.invert; deny = e.deny; set = leaves_of e.names };
}

abbrev pub entries_in : Parts → List EntryPart
entries_in parts = map entry_part parts.entries

-- ---- what parts keep to

-- the name of a privilege
abbrev pub IsPrivilegeName : List ℕ → Type 0
IsPrivilegeName name = (privilege : Privilege) × (name ≡ name_of privilege)

abbrev pub ArePrivileges : List EntryText → Type 0
ArePrivileges = All (λ (e : EntryText). All IsPrivilegeName e.names)

-- names, names once, principals, places, privileges and numbers: each rule is that of a policy's parts
abbrev pub PartsRule : Parts → PolicyFault → Type 0
PartsRule parts NotToml = Unit {0}
PartsRule parts OtherVersion = Unit {0}
PartsRule parts BadKey = Unit {0}
PartsRule parts BadName = AreNames parts.persons parts.groups parts.books
PartsRule parts NameTwice = AreOnce parts.persons parts.groups parts.books
PartsRule parts UnknownPrincipal = AreKnown parts.persons parts.groups parts.books (entries_in parts)
PartsRule parts UnknownResource = ArePlaces parts.persons parts.groups parts.books (entries_in parts)
PartsRule parts UnknownPrivilege = ArePrivileges parts.entries
PartsRule parts TooMany = IsFew parts.persons parts.groups parts.books (entries_in parts)
PartsRule parts Memory = Unit {0}

-- ---- what a text keeps to

-- the text is TOML of version 1, and spells these parts
pub record SpellsParts (text : List ℕ) (parts : Parts) : Type 0 where
  pub table : Members
  pub toml : parse_document text ≡ Some table
  pub version : has_version_one table ≡ true
  pub spelled : parts_in table ≡ Some parts

-- a rule of the parts that a text spells, if it spells any
abbrev pub OfParts : List ℕ → PolicyFault → Type 0
OfParts text fault = (parts : Parts) → SpellsParts text parts → PartsRule parts fault

-- what a text breaks that has the fault
abbrev pub Rule : List ℕ → PolicyFault → Type 0
Rule text NotToml = parse_document text ≢ None
Rule text OtherVersion = (table : Members) → parse_document text ≡ Some table → has_version_one table ≡ true
Rule text BadKey = (table : Members) → parse_document text ≡ Some table → parts_in table ≢ None
Rule text BadName = OfParts text BadName
Rule text NameTwice = OfParts text NameTwice
Rule text UnknownPrincipal = OfParts text UnknownPrincipal
Rule text UnknownResource = OfParts text UnknownResource
Rule text UnknownPrivilege = OfParts text UnknownPrivilege
Rule text TooMany = OfParts text TooMany
Rule text Memory = Unit {0}

-- ---- the least fault

abbrev pub number : PolicyFault → ℕ
number NotToml = 1
number OtherVersion = 2
number BadKey = 3
number BadName = 4
number NameTwice = 5
number UnknownPrincipal = 6
number UnknownResource = 7
number UnknownPrivilege = 8
number TooMany = 9
number Memory = 10

-- its rule is broken, and those before it are kept
pub record IsLeastBroken (Keeps : PolicyFault → Type 0) (fault : PolicyFault) : Type 0 where
  pub broken : Keeps fault → ⊥
  pub kept : (g : PolicyFault) → number g < number fault → Keeps g

-- too long a text has too much, whatever else it has
pub record IsFaultOf (text : List ℕ) (fault : PolicyFault) : Type 0 where
  pub long : MAX_POLICY_BYTES < length text → fault ≡ TooMany
  pub least : length text ≤ MAX_POLICY_BYTES → IsLeastBroken (Rule text) fault

-- ---- the policy

abbrev pub policy_of_parts : Parts → PolicyTables
policy_of_parts parts = policy_of parts.persons parts.groups parts.books (entries_in parts)

pub record IsPolicyOf (text : List ℕ) (policy : PolicyTables) : Type 0 where
  pub short : length text ≤ MAX_POLICY_BYTES
  pub rules : (g : PolicyFault) → Rule text g
  pub parts : Parts
  pub spelled : SpellsParts text parts
  pub is : policy ≡ policy_of_parts parts

-- ---- laws

-- a text spells at most one policy
abbrev pub HasOnePolicy : Type 0
HasOnePolicy = (text : List ℕ) (policy other : PolicyTables) → IsPolicyOf text policy → IsPolicyOf text other → policy ≡ other

-- a text has at most one fault beside want of memory
abbrev pub HasOneFault : Type 0
HasOneFault = (text : List ℕ) (fault other : PolicyFault) → IsFaultOf text fault → IsFaultOf text other → fault ≡ other

-- a text that spells a policy has no fault but want of memory
abbrev pub PolicyExcludesFault : Type 0
PolicyExcludesFault = (text : List ℕ) (policy : PolicyTables) (fault : PolicyFault) → IsPolicyOf text policy → IsFaultOf text fault → ⊥

-- a text spells a policy or has a fault
abbrev pub HasPolicyOrFault : Type 0
HasPolicyOrFault = (text : List ℕ) → ((policy : PolicyTables) × IsPolicyOf text policy) ⊎ ((fault : PolicyFault) × IsFaultOf text fault)
