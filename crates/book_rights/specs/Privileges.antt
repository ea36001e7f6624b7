-- Which leaves a privilege contains, and how privileges are named.
use Rattle.std.specs.Prelude.{ℕ, Bool, true, ◌&&◌, ◌||◌, List, codes, if◌then◌else◌}
use Rattle.book_rights.specs.declared.privileges.Leaf.{Leaf}
use Rattle.book_rights.specs.declared.privileges.Leaf.TheVariants.{ReadTexts, WriteContent, WriteProperties, Bind, Unbind, ReadAcl, WriteAcl, ReadCurrentUserPrivilegeSet, ReadNames}
use Rattle.book_rights.specs.declared.privileges.Privilege.{Privilege}
use Rattle.book_rights.specs.declared.privileges.Privilege.TheVariants.{One, Read, Write, All}
use Rattle.book_rights.specs.Leaves.{only}

-- the leaves of `write`: those that change a resource or the members of a collection
abbrev pub is_write : Leaf → Bool
is_write leaf = only WriteContent leaf || only WriteProperties leaf || only Bind leaf || only Unbind leaf

-- the leaves of `read`: those that see what a resource holds
abbrev pub is_read : Leaf → Bool
is_read leaf = only ReadTexts leaf || only ReadNames leaf

-- a leaf contains itself, `read` contains two leaves, `write` contains four, and `all` contains every leaf
abbrev pub contained : Privilege → Leaf → Bool
contained (One one) leaf = only one leaf
contained Read leaf = is_read leaf
contained Write leaf = is_write leaf
contained All leaf = true

abbrev pub leaf_name : Leaf → List ℕ
leaf_name ReadTexts = codes "x-read-texts"
leaf_name WriteContent = codes "write-content"
leaf_name WriteProperties = codes "write-properties"
leaf_name Bind = codes "bind"
leaf_name Unbind = codes "unbind"
leaf_name ReadAcl = codes "read-acl"
leaf_name WriteAcl = codes "write-acl"
leaf_name ReadCurrentUserPrivilegeSet = codes "read-current-user-privilege-set"
leaf_name ReadNames = codes "x-read-names"

abbrev pub name_of : Privilege → List ℕ
name_of (One leaf) = leaf_name leaf
name_of Read = codes "read"
name_of Write = codes "write"
name_of All = codes "all"

-- how the denial of a leaf is named where these leaves are needed: `x-read-texts` as `read`, where the need has both of its
-- leaves, and any other as itself
abbrev pub denied_name : Leaf → (Leaf → Bool) → Privilege
denied_name leaf need = if only ReadTexts leaf && need ReadNames then Read else One leaf
