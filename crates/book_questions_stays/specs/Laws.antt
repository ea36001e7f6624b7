-- What is told to stay is left by an adoption as it is.
use Rattle.std.specs.Prelude.{◌≡◌, ℕ, true, false, List}
use Rattle.std.specs.FinSet as set
use Rattle.book_lists.specs.declared.memberships.Membership.{Membership}
use Rattle.book_office.specs.Levels.{own_at}
use Rattle.book_office.specs.Resources.{node_at, resource_at}
use Rattle.book_office_adopting.specs.Adopting.{adopt}
use Rattle.book_office_values.specs.Paths.{path_text}
use Rattle.book_office_values.specs.declared.offices.Office.{Office}
use Rattle.book_office_values.specs.declared.paths.Path.{Path}
use Rattle.book_office_values.specs.declared.paths.Path.TheVariants as path
use Rattle.book_policy_values.specs.Policies.{IsPolicy}
use Rattle.book_policy_values.specs.declared.parts.PolicyTables.{PolicyTables}
use Rattle.book_questions_stays.specs.Stays.{is_given, is_named, member_stays}

pub record IsLeft (t : PolicyTables) (o : Office) : Type 0 where
  -- a resource that the policy does not name, with its owner and its label
  pub resources : (p : Path) → is_named t p ≡ false → node_at (adopt t o) p ≡ node_at o p
  -- the own list of a resource for which the policy has no own entries
  pub lists : (p : Path) → is_given t (path_text p) ≡ false → own_at (adopt t o) p ≡ own_at o p
  -- each card
  pub cards : (b c : List ℕ) → resource_at (adopt t o) (path.Card b c) ≡ resource_at o (path.Card b c)
  -- the direct members of a group that the policy does not have
  pub members : (m : Membership) → member_stays t m ≡ true → set.contains (adopt t o).pairs m ≡ set.contains o.pairs m

abbrev pub WhatStaysIsLeft : Type 0
WhatStaysIsLeft = (t : PolicyTables) (o : Office) → IsPolicy t → IsLeft t o
