-- What is asked of entries and parts as they are read.
use Rattle.std.specs.Prelude.{◌≡◌, ◌≤◌, ◌⊎◌, ℕ, List, [], ◌∷◌, All, get_or, length, true, Some}
use Rattle.std.specs.List.{AllByRecursion}
use Rattle.toml.specs.Data.{Members}
use Rattle.book_lists.specs.Principals.{IsPrincipal, Spells}
use Rattle.book_policy_values.specs.Policies.{HaveLabels}
use Rattle.book_policy_values.specs.declared.parts.PolicyTables.{PolicyTables}
use Rattle.book_policy_faults.specs.Values.{is_word}
use Rattle.book_policy.specs.Rules.{IsPrivilegeName, PartsRule, policy_of_parts}
use Rattle.book_policy.specs.Shapes.{has_version_one, parts_in}
use Rattle.book_policy.specs.declared.faults.PolicyFault.{PolicyFault}
use Rattle.book_policy.specs.declared.faults.PolicyFault.TheVariants.{NotToml, OtherVersion, BadKey, BadName, NameTwice, UnknownPrincipal, UnknownResource, UnknownPrivilege, TooMany, Memory}
use Rattle.book_policy.specs.declared.parts.EntryText.{EntryText}
use Rattle.book_policy.specs.declared.parts.Parts.{Parts}

-- the names of its privileges are some
abbrev pub HasPrivileges : EntryText → Type 0
HasPrivileges e = AllByRecursion IsPrivilegeName e.names

-- a word for a form, or a text that spells the path of some person or group
abbrev pub SpellsWho : List ℕ → Type 0
SpellsWho text = (is_word text ≡ true) ⊎ ((path : List ℕ) × IsPrincipal path × Spells text path)

-- its principal and its privileges are some
abbrev pub IsReadable : EntryText → Type 0
IsReadable e = SpellsWho e.who × HasPrivileges e

-- every rule but for privileges and too many
pub record KeepsNames (parts : Parts) : Type 0 where
  pub names : PartsRule parts BadName
  pub once : PartsRule parts NameTwice
  pub known : PartsRule parts UnknownPrincipal
  pub places : PartsRule parts UnknownResource

-- the policy of parts that keep every rule
abbrev pub IsPolicyOfParts : Parts → PolicyTables → Type 0
IsPolicyOfParts parts policy = ((g : PolicyFault) → PartsRule parts g) × (policy ≡ policy_of_parts parts)

-- what every table gives: labels, and a privilege for each entry
pub record IsShaped (parts : Parts) : Type 0 where
  pub labels : HaveLabels parts.persons parts.groups parts.books
  pub named : All (λ (e : EntryText). 1 ≤ length e.names) parts.entries

-- the table is of version 1, and its parts keep every rule and make the policy
pub record SpellsPolicy (ms : Members) (policy : PolicyTables) : Type 0 where
  pub version : has_version_one ms ≡ true
  pub parts : Parts
  pub spelled : parts_in ms ≡ Some parts
  pub is : IsPolicyOfParts parts policy

-- no parts that keep every rule
abbrev pub IsNoPolicy : Parts → Type 0
IsNoPolicy parts = ((g : PolicyFault) → PartsRule parts g) → ⊥

-- the fault with a number
abbrev pub fault_numbered : ℕ → PolicyFault
fault_numbered n = get_or
    (Memory ∷ NotToml ∷ OtherVersion ∷ BadKey ∷ BadName ∷ NameTwice ∷ UnknownPrincipal ∷ UnknownResource ∷ UnknownPrivilege ∷ TooMany ∷ []) n Memory
