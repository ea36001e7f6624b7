-- What holds for those who ask, at a place and at a card that they own, holds over the small model: there is one circle of each caller,
-- and entries tell two owners of a card apart only where the caller belongs to one of them and not to the other.
use Rattle.std.proofs.Common.{◌≡◌, ℕ, List, Bool, true, false, map, Option, Some, None, refl, sym, ◌∙◌, subst, inl, inr, arith}
use Rattle.std.specs.Prelude.{All, Contains, slice_index_or}
use Rattle.std.proofs.lemmas.List.{get_or-map, length-map}
use Rattle.std.proofs.lemmas.List.Elements.{All-contains, All-contains_itself, All-map, Contains-get_or}
use Rattle.book_lists.proofs.OneOutcome.{one_circle}
use Rattle.book_lists.specs.Callers.{IsCircle}
use Rattle.book_lists.specs.Circles.{CircleOf, belongs}
use Rattle.book_lists.specs.Entries.{belongs_to_any}
use Rattle.book_lists.specs.Memberships.{Belongs, Memberships}
use Rattle.book_lists.specs.declared.circles.Caller.{Caller}
use Rattle.book_lists.specs.declared.circles.Caller.TheVariants.{Nobody, Known}
use Rattle.book_lists.specs.declared.entries.Here.{Here}
use Rattle.book_office_values.specs.Paths.{is_kind, kind_of}
use Rattle.book_office_values.specs.declared.paths.Kind.TheVariants as kind
use Rattle.book_office_values.specs.declared.paths.Path.{Path}
use Rattle.book_office_values.specs.declared.paths.Path.TheVariants as path
use Rattle.book_policy_values.specs.declared.parts.PolicyTables.{PolicyTables}
use Rattle.book_policy_idle.specs.Idle.{IsHereAt, callers_of, places_of}
use Rattle.book_policy_idle.specs.Marks.{AreAskers, Both, IsAsker, here_unowned, own_card}
use Rattle.book_policy_idle.specs.declared.askers.Asker.{Asker}
use Rattle.book_policy_idle.proofs.Clearing.{bool_cases}
use Rattle.book_policy_idle.proofs.Model.{here_places, own_here}

not_true : (b : Bool) → (b ≡ true → ⊥) → b ≡ false
not_true true h = absurd (h refl)
not_true false h = refl

abbrev no_owner : Here
no_owner = record { owner = None; principal = None }

-- what is asked does not tell two owners apart, if the caller belongs to both or to neither
abbrev pub Moves : (CircleOf → Here → Type 0) → Type 0
Moves Q = (circle : CircleOf) (h k : Here) → belongs_to_any circle h.owner ≡ belongs_to_any circle k.owner → h.principal ≡ k.principal → Q circle k → Q circle h

module _ (Q : CircleOf → Here → Type 0) (moves : Moves Q) (members : Memberships) (circle : CircleOf) where
  by_owner : (caller : Caller) → IsCircle members caller circle → Q circle (record { owner = None; principal = None })
      → Q circle (own_card caller) → (here : Here) → here.principal ≡ None → Q circle here
  by_owner Nobody is unowned owned here plain = moves circle here no_owner (of_none here.owner) plain unowned
    where
      of_none : (owner : Option (List ℕ)) → belongs_to_any circle owner ≡ false
      of_none None = refl
      of_none (Some q) = not_true (belongs circle q) (λ agreed. (is.principals q).0 agreed)
  by_owner (Known person) is unowned owned here plain = elim (bool_cases (belongs_to_any circle here.owner)) [
    | inl agreed ↦ moves circle here (own_card (Known person)) (agreed ∙ sym ((is.principals person).1 itself)) plain owned
    | inr outside ↦ moves circle here no_owner outside plain unowned
  ]
    where
      itself : Belongs members person person
      itself = inl refl

  by_place : (caller : Caller) (p : Path) (here : Here) → IsCircle members caller circle → IsHereAt p here
      → Q circle (here_unowned p) → (is_kind kind.Book (kind_of p) ≡ true → Q circle (own_card caller)) → Q circle here
  by_place caller path.Root here is at unowned owned = subst (λ h. Q circle h) (sym at) unowned
  by_place caller path.People here is at unowned owned = subst (λ h. Q circle h) (sym at) unowned
  by_place caller path.Groups here is at unowned owned = subst (λ h. Q circle h) (sym at) unowned
  by_place caller path.Books here is at unowned owned = subst (λ h. Q circle h) (sym at) unowned
  by_place caller (path.Person n) here is at unowned owned = subst (λ h. Q circle h) (sym at) unowned
  by_place caller (path.Group n) here is at unowned owned = subst (λ h. Q circle h) (sym at) unowned
  by_place caller (path.Book b) here is at unowned owned = by_owner caller is unowned (owned refl) here at
  by_place caller (path.Card b c) here is at unowned owned = absurd at

-- one who asks stands for their caller
asker_stands : (Q : CircleOf → Here → Type 0) → Moves Q → (members : Memberships) (p : Path) (asker : Asker) (circle : CircleOf) (here : Here)
    → IsAsker members asker → Both Q (here_unowned p) (is_kind kind.Book (kind_of p)) asker
    → IsCircle members asker.caller circle → IsHereAt p here → Q circle here
asker_stands Q moves members p asker circle here right there is at =
    let same : circle ≡ asker.circle = one_circle members asker.caller circle asker.circle is right.circle in
    by_place Q moves members circle asker.caller p here is at
    (subst (λ (c : CircleOf). Q c (here_unowned p)) (sym same) there.unowned)
    (λ book. subst (λ (h : Here). Q circle h) right.own
    (subst (λ (c : CircleOf). Q c asker.own) (sym same) (there.owned book)))

abbrev caller_in : Asker → Caller
caller_in a = a.caller

contained : (askers : List Asker) → All (λ (asker : Asker). Contains (map caller_in askers) asker.caller) askers
contained askers k d below =
    subst (Contains (map caller_in askers)) (get_or-map caller_in askers k d d.caller below)
    (Contains-get_or (map caller_in askers) k d.caller (omega (arith, below, length-map askers caller_in)))

module _ (t : PolicyTables) (askers : List Asker) (places : List Path) (are : AreAskers t askers) (same : places ≡ places_of t) (Q : Path → CircleOf → Here → Type 0) where
  abbrev pub Asked : Path → Type 0
  Asked p = All (Both (Q p) (here_unowned p) (is_kind kind.Book (kind_of p))) askers

  abbrev pub Everywhere : Type 0
  Everywhere = (p : Path) (caller : Caller) (circle : CircleOf) (here : Here)
      → Contains (places_of t) p → Contains (callers_of t) caller → IsCircle t.members caller circle → IsHereAt p here → Q p circle here

  pub asked_everywhere : ((p : Path) → Moves (Q p)) → All Asked places → Everywhere
  asked_everywhere moves along p caller circle here is_place is_caller is_circle is_here =
      All-contains by_caller (callers_of t) caller
      (subst (All by_caller) are.callers (All-map by_caller caller_in askers (λ k d below. stands (slice_index_or askers k d) (are.right k d below) (there k d below))))
      is_caller circle here is_circle is_here
    where
      by_caller : Caller → Type 0
      by_caller who = (c : CircleOf) (h : Here) → IsCircle t.members who c → IsHereAt p h → Q p c h

      there : Asked p
      there = All-contains Asked (places_of t) p (subst (All Asked) same along) is_place

      stands : (asker : Asker) → IsAsker t.members asker → Both (Q p) (here_unowned p) (is_kind kind.Book (kind_of p)) asker → by_caller asker.caller
      stands asker right both c h is at = asker_stands (Q p) (moves p) t.members p asker c h right both is at

  pub everywhere_asked : Everywhere → All Asked places
  everywhere_asked every =
      subst (All Asked) (sym same)
      (λ k d below. each (slice_index_or (places_of t) k d) (All-contains_itself (places_of t) k d below) (here_places t k d below))
    where
      each : (p : Path) → Contains (places_of t) p → IsHereAt p (here_unowned p) → Asked p
      each p is_place is_here k d below = one (slice_index_or askers k d) (are.right k d below) (is_caller k d below)
        where
          is_caller : All (λ (asker : Asker). Contains (callers_of t) asker.caller) askers
          is_caller = subst (λ (cs : List Caller). All (λ (asker : Asker). Contains cs asker.caller) askers) are.callers (contained askers)

          one : (asker : Asker) → IsAsker t.members asker → Contains (callers_of t) asker.caller → Both (Q p) (here_unowned p) (is_kind kind.Book (kind_of p)) asker
          one asker right known_caller = record {
            unowned = every p asker.caller asker.circle (here_unowned p) is_place known_caller right.circle is_here;
            owned = λ book.
                every p asker.caller asker.circle asker.own is_place known_caller right.circle
                (subst (IsHereAt p) (sym right.own) (own_here p asker.caller book));
          }
