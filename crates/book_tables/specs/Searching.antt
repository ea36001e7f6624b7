-- A search along direct memberships, from some principals on: upwards, from a member to its groups, or downwards.
use Rattle.std.specs.Prelude.{◌≡◌, ◌⊎◌, ℕ, Bool, true, ◌&&◌, ◌||◌, List, [], ◌∷◌, ◌++◌}
use Rattle.std.specs.FinSet as set
use Rattle.std.specs.Str.{bytes_eq}
use Rattle.book_lists.specs.Circles.{has_path}
use Rattle.book_lists.specs.Memberships.{Memberships}
use Rattle.book_lists.specs.declared.memberships.Membership.{Membership}
use Rattle.book_tables.specs.declared.searching.Search.{Search}
use Rattle.book_tables.specs.declared.searching.Way.{Way}
use Rattle.book_tables.specs.declared.searching.Way.TheVariants.{Up, Down}

-- the end of a pair by which it is looked up
abbrev pub near_end : Way → Membership → List ℕ
near_end Up m = m.member
near_end Down m = m.group

-- the end to which the search comes
abbrev pub far_end : Way → Membership → List ℕ
far_end Up m = m.group
far_end Down m = m.member

-- pairs are added to some, and their far ends to the work
pub record Adds (way : Way) (added : Membership → Bool) (old new : Memberships) (work after : List (List ℕ)) : Type 0 where
  pub pairs : (m : Membership) → set.contains new m ≡ (added m || set.contains old m)
  pub kept : (q : List ℕ) → has_path work q ≡ true → has_path after q ≡ true
  pub come : (m : Membership) → added m ≡ true → has_path after (far_end way m) ≡ true

-- a principal is met, and its pairs are added
pub record Takes (way : Way) (next : List ℕ) (here : Memberships) (old new : Search) : Type 0 where
  pub all : new.all.items ≡ old.all.items ++ next ∷ []
  pub met : new.met ≡ set.insert old.met next
  pub adds : Adds way (λ m. set.contains here m) old.pairs new.pairs old.work.items new.work.items

-- the pairs of one principal
abbrev pub ArePairsAt : Memberships → Way → List ℕ → Memberships → Type 0
ArePairsAt direct way at pairs = (m : Membership) → set.contains pairs m ≡ (set.contains direct m && bytes_eq (near_end way m) at)

-- how far a search has come: each start, and each principal to which a pair leads from one that was met, was met or is still to be looked at
pub record Searches (direct : Memberships) (way : Way) (starts : List (List ℕ)) (s : Search) : Type 0 where
  pub listed : (q : List ℕ) → has_path s.all.items q ≡ set.contains s.met q
  pub started : (q : List ℕ) → has_path starts q ≡ true → (set.contains s.met q ≡ true) ⊎ (has_path s.work.items q ≡ true)
  pub pairs_are : (m : Membership) → set.contains s.pairs m ≡ (set.contains direct m && set.contains s.met (near_end way m))
  pub closed : (m : Membership) → set.contains direct m ≡ true → set.contains s.met (near_end way m) ≡ true
      → (set.contains s.met (far_end way m) ≡ true) ⊎ (has_path s.work.items (far_end way m) ≡ true)

-- one that is done: nothing is left to be looked at
pub record HasSearched (direct : Memberships) (way : Way) (starts : List (List ℕ)) (s : Search) : Type 0 where
  pub searches : Searches direct way starts s
  pub done : s.work.items ≡ []
