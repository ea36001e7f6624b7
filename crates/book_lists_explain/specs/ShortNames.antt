-- Short names of sets of leaves (own profile).
use Rattle.std.specs.Prelude.{Bool, ◌&&◌, List, [], ◌∷◌, if◌then◌else◌, Option, Some, None, nat_eq}
use Rattle.std.specs.List.{filter_map}
use Rattle.book_rights.specs.declared.privileges.Leaf.{Leaf}
use Rattle.book_rights.specs.declared.privileges.Leaf.TheVariants.{ReadTexts, WriteContent, WriteProperties, Bind, Unbind, ReadAcl, WriteAcl, ReadCurrentUserPrivilegeSet, ReadNames}
use Rattle.book_rights.specs.declared.privileges.Privilege.{Privilege}
use Rattle.book_rights.specs.declared.privileges.Privilege.TheVariants.{One, Read, Write, All}
use Rattle.book_rights.specs.Privileges.{is_read, is_write}
use Rattle.book_rights.specs.Leaves.{place_of}

-- whether every leaf of read is in the set
abbrev pub has_read : (Leaf → Bool) → Bool
has_read set = set ReadTexts && set ReadNames

-- whether every leaf of write is
abbrev pub has_write : (Leaf → Bool) → Bool
has_write set = set WriteContent && (set WriteProperties && (set Bind && set Unbind))

-- whether every leaf is
abbrev pub has_all : (Leaf → Bool) → Bool
has_all set = has_read set && (has_write set && (set ReadAcl && (set WriteAcl && set ReadCurrentUserPrivilegeSet)))

-- What stands for a leaf in a list of short names: `read` and `write` for the first of their leaves where all of theirs are
-- held, and nothing for the others; else the leaf itself, if it is in the set.
abbrev pub short_name : (Leaf → Bool) → Leaf → Option Privilege
short_name set leaf =
    if set leaf then
    (if has_read set && is_read leaf then (if nat_eq (place_of leaf) (place_of ReadTexts) then Some Read else None) else
    (if has_write set && is_write leaf then (if nat_eq (place_of leaf) (place_of WriteContent) then Some Write else None) else Some (One leaf)))
    else None

-- the leaves in order
abbrev pub all_leaves : List Leaf
all_leaves = ReadTexts ∷ WriteContent ∷ WriteProperties ∷ Bind ∷ Unbind ∷ ReadAcl ∷ WriteAcl ∷ ReadCurrentUserPrivilegeSet ∷ ReadNames ∷ []

-- the short names of a set, in order
abbrev pub short_list : (Leaf → Bool) → List Privilege
short_list set = if has_all set then All ∷ [] else filter_map (short_name set) all_leaves
