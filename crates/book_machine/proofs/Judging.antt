-- The verdict, need by need.
use Rattle.book_machine.proofs.Common.{◌≡◌, List, ◌∷◌, [], ◌++◌, Bool, true, false, Option, Some, None, Result, Ok, Err, inl, inr, refl, sym, subst, ap, ◌∙◌, option_map, option_and_then, flat_map, Leaf, Need, CircleOf, Path, effective_at, effective_of, Level, Resource, resource_at, node_of, unnumbered, EffectiveEntry, Node, Office, IsGrantedAt, bare_entries, here_of, owner_at, place_path, JudgesNeed, JudgesNeeds, IsTarget, Destination, Target, Refusal}
use Rattle.std.proofs.lemmas.List.{map-append}
use Rattle.book_lists.specs.Decisions.{IsAllowed}
use Rattle.book_lists.specs.declared.entries.Here.{Here}
use Rattle.book_office.specs.InForce.{in_force, in_force_at, list_in, lists_in}
use Rattle.book_office.specs.Levels.{lists_at}
use Rattle.book_office_listings.specs.Scanning.{standing_in}
use Rattle.book_office_listings.proofs.InTurn.{entries_standing}
use Rattle.book_machine.specs.Verdicts.{Judges, owned_by, owner_in}

-- a decision by the list and the owner that are those of the resource
pub judged_at : (o : Office) (circle : CircleOf) (p : Path) (set : Leaf → Bool) (r : Result (Unit {0}) Refusal) (list : List EffectiveEntry) (here : Here)
    → list ≡ effective_at o p → here ≡ here_of o p → Judges list circle here p set r → JudgesNeed o circle p set r
judged_at o circle p set r list here same_list same_here judged =
    subst (λ h. Judges (effective_at o p) circle h p set r) same_here (subst (λ l. Judges l circle here p set r) same_list judged)

owner_of_node : (found : Option Resource)
    → option_and_then (λ (n : Node). n.owner) (option_map unnumbered (option_map node_of found)) ≡ option_and_then (λ (r : Resource). r.owner) found
owner_of_node None = refl
owner_of_node (Some r) = refl

-- the owner of what is mapped at the target
pub owner_of_target : (o : Office) (target : Target) → IsTarget o target → owner_in target.node ≡ owner_at o target.path
owner_of_target o target is = ap owner_in is ∙ owner_of_node (resource_at o target.path)

-- the owner that was taken out is put back
pub owned_again : (node : Option Node) → owned_by (owner_in node) (owned_by None node) ≡ node
owned_again None = refl
owned_again (Some n) = refl

module _ (o : Office) (circle : CircleOf) (to : Option Destination) (target : Path) where
  -- a need that is granted, and then others
  pub then_needs : (need : Need) (rest : List Need) (u : Unit {0}) (r : Result (Unit {0}) Refusal)
      → JudgesNeed o circle (place_path to target need.place) need.set (Ok u)
      → JudgesNeeds o circle to target rest r → JudgesNeeds o circle to target (need ∷ rest) r
  then_needs need rest u (Ok v) granted others = (granted, others)
  then_needs need rest u (Err e) granted (inl unavailable) = inl unavailable
  then_needs need rest u (Err e) granted (inr denied) = inr (denied.0, denied.1, inr (granted, denied.2))

-- ---- the entries in force, with and without where they stand

entries_of_lists : (b : Bool) (levels : List Level) → bare_entries (flat_map (standing_in b) levels) ≡ lists_in b levels
entries_of_lists b [] = refl
entries_of_lists b (level ∷ levels) =
    map-append (λ (e : EffectiveEntry). e.entry) (standing_in b level) (flat_map (standing_in b) levels)
    ∙ (λ i. entries_standing level.path b (list_in b level) i ++ entries_of_lists b levels i)

entries_in_force : (levels : List Level) → bare_entries (effective_of levels) ≡ in_force levels
entries_in_force levels =
    map-append (λ (e : EffectiveEntry). e.entry) (flat_map (standing_in true) levels) (flat_map (standing_in false) levels)
    ∙ (λ i. entries_of_lists true levels i ++ entries_of_lists false levels i)

-- a set that the entries in force grant is granted
pub granted_at : (o : Office) (circle : CircleOf) (p : Path) (set : Leaf → Bool) (here : Here) → here ≡ here_of o p → IsAllowed (in_force_at o p) circle here set → IsGrantedAt o circle p set
granted_at o circle p set here same_here granted =
    subst (λ h. IsAllowed (bare_entries (effective_at o p)) circle h set) same_here
    (subst (λ list. IsAllowed list circle here set) (sym (entries_in_force (lists_at o p).levels)) granted)
