-- Sets of leaves by the names of privileges (RFC 3744, section 3).
use Rattle.std.specs.Prelude.{ℕ, Bool, List, Option, None, Some}
use Rattle.book_lists_explain.specs.Lines.{AreLeaves, HasUnknown}
use Rattle.book_rights.specs.declared.privileges.Leaf.{Leaf}

-- the leaves that the privileges with these names contain; none where a name is no privilege's
abbrev pub AreLeavesIn : List (List ℕ) → Option (Leaf → Bool) → Type 0
AreLeavesIn names (Some set) = AreLeaves names set
AreLeavesIn names None = HasUnknown names
