-- What a walk over an effective list tells.
use Rattle.book_policy_gaps.proofs.Common.{◌≡◌, ◌++◌, ◌∷◌, ◌∙◌, [], List, Option, Some, None, ℕ, true, false, Bool, ap, refl, Leaf, CircleOf, Here, EffectiveEntry, read_by, bare_entries, if◌then◌else◌}
use Rattle.std.proofs.Common.{not, suc, option_map}
use Rattle.std.specs.Option.{option_map_or}
use Rattle.book_rights.specs.Leaves.{no_leaf, with_leaf}
use Rattle.book_rights.specs.declared.privileges.Leaf.TheVariants.{ReadTexts, WriteContent, WriteProperties, Bind, Unbind, ReadAcl, WriteAcl, ReadCurrentUserPrivilegeSet, ReadNames}
use Rattle.book_lists.specs.Deciding.{decider}
use Rattle.book_lists.specs.Deciders.{granted_read}
use Rattle.book_lists.specs.Decisions.{bears}
use Rattle.book_lists.specs.Readings.{Reading, bears_read, denying_read}
use Rattle.book_office_listings.specs.Values.{granted_by}

module _ (circle : CircleOf) (here : Here) where
  pub read_one_more : (list : List EffectiveEntry) (e : EffectiveEntry)
      → read_by circle here (bare_entries list) ++ read_by circle here (e.entry ∷ []) ≡ read_by circle here (bare_entries (list ++ e ∷ []))
  read_one_more [] e = refl
  read_one_more (x ∷ xs) e = ap (λ rs. record { circle = circle; here = here; entry = x.entry } ∷ rs) (read_one_more xs e)

  -- what is granted by the readings is what the first entry that applies and holds the leaf grants
  pub granted_is : (list : List EffectiveEntry) (leaf : Leaf) → granted_read (read_by circle here (bare_entries list)) leaf ≡ granted_by list circle here leaf
  granted_is [] leaf = refl
  granted_is (x ∷ xs) leaf = go (granted_is xs leaf) (bears circle here leaf x.entry)
    where
      grant : Option (ℕ × Reading) → Bool
      grant found = option_map_or (λ (f : ℕ × Reading). not (denying_read f.1)) found false

      later : (found : Option (ℕ × Reading)) → grant (option_map (λ (f : ℕ × Reading). (suc f.0, f.1)) found) ≡ grant found
      later None = refl
      later (Some f) = refl

      rest : Option (ℕ × Reading)
      rest = decider bears_read (read_by circle here (bare_entries xs)) leaf

      go : grant rest ≡ granted_by xs circle here leaf → (b : Bool)
          → grant (if b then Some (0, record { circle = circle; here = here; entry = x.entry }) else option_map (λ (f : ℕ × Reading). (suc f.0, f.1)) rest)
          ≡ (if b then not x.entry.deny else granted_by xs circle here leaf)
      go below true = refl
      go below false = later rest ∙ below

-- a leaf is in the set of itself alone
pub alone : (leaf : Leaf) → with_leaf no_leaf leaf leaf ≡ true
alone ReadTexts = refl
alone WriteContent = refl
alone WriteProperties = refl
alone Bind = refl
alone Unbind = refl
alone ReadAcl = refl
alone WriteAcl = refl
alone ReadCurrentUserPrivilegeSet = refl
alone ReadNames = refl
