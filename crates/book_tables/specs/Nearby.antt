-- What is read where the members of a group are set: the pairs near those whose direct groups become others.
use Rattle.std.specs.Prelude.{◌≡◌, ◌⊎◌, ℕ, Bool, true, false, ◌&&◌, List, []}
use Rattle.std.specs.FinSet as set
use Rattle.std.specs.List.{list_any}
use Rattle.std.specs.Ordering.{eq_by_cmp}
use Rattle.book_lists.specs.Circles.{has_path}
use Rattle.book_lists.specs.Memberships.{Memberships, IsDirect, membership_cmp}
use Rattle.book_lists.specs.declared.memberships.Membership.{Membership}
use Rattle.book_office.specs.Edits.{members_set}
use Rattle.book_tables.specs.Searching.{Searches}
use Rattle.book_tables.specs.declared.searching.Search.{Search}
use Rattle.book_tables.specs.declared.searching.Way.{Way}

-- each pair that comes or goes has its member among these
abbrev pub AreChanged : Memberships → Memberships → (List ℕ → Bool) → Type 0
AreChanged old new are = (m : Membership) → (set.contains old m ≡ set.contains new m) ⊎ (are m.member ≡ true)

-- to some principals the members of the pairs of a list are added that are not among others
pub record PushesChanged (list : List Membership) (others : Memberships) (old new : List (List ℕ)) : Type 0 where
  pub kept : (q : List ℕ) → has_path old q ≡ true → has_path new q ≡ true
  pub come : (m : Membership) → list_any (eq_by_cmp membership_cmp m) list ≡ true → set.contains others m ≡ false → has_path new m.member ≡ true

-- these have the members of all pairs that come or go, and whatever is below those
pub record IsBelow (old new : Memberships) (below : List ℕ → Bool) : Type 0 where
  pub changed : AreChanged old new below
  pub closed : (group p : List ℕ) → IsDirect old group p → below group ≡ true → below p ≡ true

-- the pairs near some principals: all whose members are among these, and with a member its groups are
pub record IsNear (pairs : Memberships) (met : List ℕ → Bool) (near : Memberships) : Type 0 where
  pub are : (m : Membership) → set.contains near m ≡ (set.contains pairs m && met m.member)
  pub closed : (group p : List ℕ) → IsDirect pairs group p → met p ≡ true → met group ≡ true

-- a search has found the pairs near the group and those below the members that come or go
pub record HasNearby (pairs : Memberships) (group : List ℕ) (members : List (List ℕ)) (s : Search) : Type 0 where
  pub below : List ℕ → Bool
  pub is_below : IsBelow pairs (members_set pairs group members) below
  pub are_met : (p : List ℕ) → below p ≡ true → set.contains s.met p ≡ true
  pub group_met : set.contains s.met group ≡ true
  pub near : IsNear pairs (λ p. set.contains s.met p) s.pairs

-- a search goes on, and where nothing is left it is done
abbrev pub GoesOn : Memberships → Way → Search → Search → Bool → Type 0
GoesOn direct way old new more = (starts : List (List ℕ)) → Searches direct way starts old → Searches direct way starts new × (more ≡ false → new.work.items ≡ [])
