-- Readings that bear on no leaf that is left, and what more readings leave settled.
use Rattle.book_lists.proofs.Common.{◌≡◌, ◌∙◌, Bool, true, false, ◌&&◌, List, ◌++◌, inl, inr, both_ways, Leaf, Reading}
use Rattle.std.proofs.lemmas.Bool.{and_from, and_left, and_right, false_from_ne_true}
use Rattle.book_lists.specs.Entries.{applies}
use Rattle.book_lists.specs.Readings.{bears_read, denying_read, Settles}
use Rattle.book_lists.proofs.FirstBearings.{allowed_more, denies_more}

-- the leaves of both sets
abbrev pub IsShared : (Leaf → Bool) → (Leaf → Bool) → (Leaf → Bool) → Type 0
IsShared shared left set = (leaf : Leaf) → shared leaf ≡ (left leaf && set leaf)

-- a reading that applies
abbrev pub reads : Reading → Bool
reads r = applies r.entry r.circle r.here

module _ (left : Leaf → Bool) (r : Reading) where
  -- the reading bears on none of the leaves that are left
  abbrev pub Idle : Type 0
  Idle = (leaf : Leaf) → left leaf ≡ true → bears_read leaf r ≡ false

  pub idle_unshared : (shared : Leaf → Bool) → IsShared shared left r.entry.set → ((leaf : Leaf) → shared leaf ≡ false) → Idle
  idle_unshared shared same none leaf still =
      and_right _ _ (false_from_ne_true _ (λ holds. both_ways _ (none leaf) (same leaf ∙ and_from _ _ still holds)))

  pub idle_elsewhere : reads r ≡ false → Idle
  idle_elsewhere elsewhere leaf still = and_left _ _ elsewhere

-- what is settled stays so
pub settles_more : (readings more : List Reading) (need : Leaf → Bool) → Settles readings need → Settles (readings ++ more) need
settles_more readings more need (inl all) = inl (allowed_more bears_read denying_read readings more need all)
settles_more readings more need (inr d) = inr (d.0, d.1, d.2, denies_more bears_read denying_read readings more d.0 d.1 d.3)
