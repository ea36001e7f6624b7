-- The requests by which a caller may get a right.
use Rattle.std.specs.Prelude.{◌≡◌, ℕ, Bool, ◌++◌, List, [], ◌∷◌, map, Option, Some, None, false}
use Rattle.book_rights.specs.declared.methods.Method.{Method}
use Rattle.book_rights.specs.declared.methods.Method.TheVariants as method
use Rattle.book_rights.specs.declared.privileges.Leaf.{Leaf}
use Rattle.book_lists.specs.Memberships.{Memberships, members_of, set_of}
use Rattle.book_lists.specs.Principals.{group_path, person_path}
use Rattle.book_lists.specs.declared.circles.Caller.{Caller}
use Rattle.book_lists.specs.declared.circles.Caller.TheVariants.{Nobody, Known}
use Rattle.book_lists.specs.declared.entries.Who.{Who}
use Rattle.book_lists.specs.declared.entries.Who.TheVariants.{Href, Unauthenticated}
use Rattle.book_lists.specs.declared.memberships.Membership.{Membership}
use Rattle.book_lists.specs.declared.submitted.Submitted.{Submitted}
use Rattle.book_office_values.specs.declared.offices.Office.{Office}
use Rattle.book_office_values.specs.declared.paths.Path.{Path}
use Rattle.book_office_values.specs.declared.paths.Path.TheVariants as path
use Rattle.book_machine.specs.declared.messages.Body.{Body}
use Rattle.book_machine.specs.declared.messages.Body.TheVariants as body
use Rattle.book_machine.specs.declared.messages.Depth.TheVariants.{Zero}
use Rattle.book_machine.specs.declared.messages.Flag.TheVariants.{Yes}
use Rattle.book_machine.specs.declared.messages.Patch.TheVariants.{GroupMembers}
use Rattle.book_machine.specs.declared.messages.Request.{Request}
use Rattle.book_policy_openings.specs.declared.steps.Step.{Step}
use Rattle.book_policy_openings.specs.declared.steps.Step.TheVariants.{Join, Grant}

-- a request that names no destination
abbrev pub plain : Method → Path → Body → Request
plain m p b = record { method = m; path = Some p; destination = None; overwrite = Yes; depth = Zero; body = b }

-- the members of pairs, each once, and the person
abbrev pub AreListedAnd : Memberships → List ℕ → List (List ℕ) → Type 0
AreListedAnd pairs person members =
    (listed : List Membership) × (set_of listed ≡ pairs) × (members ≡ map (λ (m : Membership). m.member) listed ++ person ∷ [])

-- the direct members of a group, and the person
abbrev pub AreMembersAnd : Office → List ℕ → List ℕ → List (List ℕ) → Type 0
AreMembersAnd o group person members = AreListedAnd (members_of o.pairs group) person members

-- a caller, by the bare name of the person; without one it is nobody, who is not known
abbrev pub caller_of : Option (List ℕ) → Caller
caller_of None = Nobody
caller_of (Some name) = Known (person_path name)

-- the form of an entry that is for a caller alone
abbrev pub form_of : Option (List ℕ) → Who
form_of None = Unauthenticated
form_of (Some name) = Href (person_path name)

-- an entry of a form that grants leaves
abbrev pub granting : Who → (Leaf → Bool) → Submitted
granting form leaves = record { who = Some form; invert = false; deny = false; set = Some leaves; protected = false; inherited = false }

-- a person asks to be a member of a group, beside those that it has
abbrev pub IsJoin : Office → List ℕ → List ℕ → Request → Type 0
IsJoin o name group request =
    (members : List (List ℕ)) × AreMembersAnd o (group_path group) (person_path name) members
    × (request ≡ plain method.Proppatch (path.Group group) (body.Patch (GroupMembers members)))

-- nobody can't be a member
abbrev pub IsJoinOf : Office → Option (List ℕ) → List ℕ → Request → Type 0
IsJoinOf o None group request = ⊥
IsJoinOf o (Some name) group request = IsJoin o name group request

-- a caller grants leaves to themselves alone
abbrev pub grant_request : Option (List ℕ) → Path → (Leaf → Bool) → Request
grant_request caller p leaves = plain method.Acl p (body.List (granting (form_of caller) leaves ∷ []))

-- what a step of a caller asks in an Office
abbrev pub IsRequestOf : Office → Option (List ℕ) → Step → Request → Type 0
IsRequestOf o caller (Join group) request = IsJoinOf o caller group request
IsRequestOf o caller (Grant p leaves) request = request ≡ grant_request caller p leaves
