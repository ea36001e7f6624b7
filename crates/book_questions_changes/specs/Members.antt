-- The direct memberships that one Office has and another has not, as lines of text (own profile).
use Rattle.std.specs.Prelude.{◌≡◌, ℕ, List, ◌++◌, codes, filter, map, not}
use Rattle.std.specs.FinSet as set
use Rattle.book_lists.specs.Memberships.{Memberships, set_of}
use Rattle.book_lists.specs.declared.memberships.Membership.{Membership}
use Rattle.book_office_audit.specs.Audits.{Block, in_order, member_line}

-- those of a list that are not among others
abbrev pub missing_in : Memberships → List Membership → List Membership
missing_in others list = filter (λ (m : Membership). not (set.contains others m)) list

-- a sign and a direct membership, at the line of the membership
abbrev pub signed_block : List ℕ → Membership → Block
signed_block sign m = (member_line m, sign ++ (member_line m ++ codes "\n"))

abbrev pub member_blocks : Memberships → Memberships → List Membership → List Membership → List Block
member_blocks first last before after = map (signed_block (codes "- ")) (missing_in last before) ++ map (signed_block (codes "+ ")) (missing_in first after)

-- those that the first has and the last has not after `- `, and the others after `+ `, in byte order of the lines without their signs
abbrev pub IsMembersText : Memberships → Memberships → List ℕ → Type 0
IsMembersText first last text = (before : List Membership) × (after : List Membership) × (set_of before ≡ first) × (set_of after ≡ last)
    × (text ≡ in_order (member_blocks first last before after))
