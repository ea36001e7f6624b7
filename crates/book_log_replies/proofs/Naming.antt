-- The entry of a denial stands where the denial says.
use Rattle.book_log_replies.proofs.Common.{◌≡◌, ◌⊎◌, inl, inr, ap, sym, refl, subst, ◌∙◌, map, ◌++◌, ◌∷◌, List, [], ℕ, ◌+◌, ◌-◌, ◌≤◌, Option, Some, None, option_map, Bool, true, false, arith, slice_get, flat_map, slice_get-map, Entry, list_in, Level, Office, Path, Placed, all_placed, decided, decided_of, numbered, placed, placed_at}
use Rattle.std.proofs.Common.{if◌then◌else◌, nat_eq}
use Rattle.std.proofs.lemmas.Bool.Decides.{nat_tests}
use Rattle.std.proofs.lemmas.List.{map-append}
use Rattle.std.specs.Option.{option_and_then}
use Rattle.book_log_lines.specs.declared.lines.Decided.{Decided}
use Rattle.book_lists.specs.Circles.{CircleOf}
use Rattle.book_machine.specs.Refusals.{refusal_name}
use Rattle.book_machine.specs.Targets.{Ready}
use Rattle.book_machine.specs.Verdicts.{IsDenied, IsFirstDenial}
use Rattle.book_machine.specs.declared.asked.Destination.{Destination}
use Rattle.book_office.specs.Levels.{effective_at, effective_of, level_at, lists_at, own_entries, protected_entries, standing_at}
use Rattle.book_office.specs.declared.nodes.EffectiveEntry.{EffectiveEntry}
use Rattle.book_office_listings.specs.Verdicts.{IsDeniedAt, deciding_entry, entry_in, paths_of}
use Rattle.book_office_listings.specs.declared.messages.DecidingEntry.{DecidingEntry}
use Rattle.book_office_listings.specs.declared.messages.Denial.{Denial}
use Rattle.book_office_values.specs.Paths.{levels}
use Rattle.book_rights.specs.declared.places.Need.{Need}
use Rattle.book_rights.specs.declared.privileges.Leaf.{Leaf}
use Rattle.book_log_replies.specs.Laws.{DenialsNameTheEntry, IsNamed, LinesTellNoContents, PlacesAreInForce, list_at, standing}
use Rattle.book_log_replies.specs.Replies.{denial_of, denied_of}
use Rattle.book_log_replies.proofs.Places.{get_split, placed_get}

-- ---- the line is a function of what it tells
pub tell_no_contents : LinesTellNoContents
tell_no_contents x request other reply further ls method path to status refusal = λ i. record {
  time = x.time;
  connection = x.connection;
  caller = x.caller;
  method = Some (method i);
  path = path i;
  destination = to i;
  status = status i;
  error = option_map refusal_name (refusal i);
  denied = option_map (denied_of ls) (option_and_then denial_of (refusal i));
  touched = x.touched;
  epoch = x.epoch;
}

-- ---- without their places they are the entries in force
without_place : (b : Bool) (p : Path) (n : ℕ) (es : List Entry) → map standing (map (placed_at b p) (numbered n es)) ≡ map (standing_at p b) es
without_place b p n [] = refl
without_place b p n (e ∷ es) = ap (λ r. standing_at p b e ∷ r) (without_place b p (n + 1) es)

protected_in_force : (ls : List Level) → map standing (flat_map (placed true) ls) ≡ flat_map protected_entries ls
protected_in_force [] = refl
protected_in_force (l ∷ ls) =
    map-append standing (placed true l) (flat_map (placed true) ls)
    ∙ (λ i. without_place true l.path 1 l.protected i ++ protected_in_force ls i)

own_in_force : (ls : List Level) → map standing (flat_map (placed false) ls) ≡ flat_map own_entries ls
own_in_force [] = refl
own_in_force (l ∷ ls) =
    map-append standing (placed false l) (flat_map (placed false) ls)
    ∙ (λ i. without_place false l.path 1 l.own i ++ own_in_force ls i)

pub places_in_force : PlacesAreInForce
places_in_force ls =
    map-append standing (flat_map (placed true) ls) (flat_map (placed false) ls)
    ∙ (λ i. protected_in_force ls i ++ own_in_force ls i)

-- ---- each stands at its place
some_same : {A : Type 0} {x y : A} → Some x ≡ Some y → x ≡ y
some_same e = cc

module _ (o : Office) where
  abbrev Good : Placed → Type 0
  Good q = (1 ≤ q.place) × (slice_get (list_at o q.is_protected q.from) (q.place - 1) ≡ Some q.entry)

  good_entry : (b : Bool) (p : Path) (es : List Entry) → es ≡ list_at o b p → (k : ℕ) (q : Placed) (r : Option Entry) → slice_get es k ≡ r
      → option_map (λ (e : Entry). placed_at b p (1 + k, e)) r ≡ Some q → Good q
  good_entry b p es is k q None at e = absurd cc
  good_entry b p es is k q (Some entry) at e =
      let place : 1 + k - 1 ≡ k = omega arith in
      subst Good (some_same e) (omega arith, ap (slice_get (list_at o b p)) place ∙ ap (λ list. slice_get list k) (sym is) ∙ at)

  good_list : (b : Bool) (p : Path) (es : List Entry) → es ≡ list_at o b p → (k : ℕ) (q : Placed) → slice_get (map (placed_at b p) (numbered 1 es)) k ≡ Some q → Good q
  good_list b p es is k q e = good_entry b p es is k q (slice_get es k) refl (sym (placed_get b p es k) ∙ e)

  good_level : (b : Bool) (p : Path) (k : ℕ) (q : Placed) → slice_get (placed b (level_at o p)) k ≡ Some q → Good q
  good_level true p k q e = good_list true p (list_in true (level_at o p)) refl k q e
  good_level false p k q e = good_list false p (list_in false (level_at o p)) refl k q e

  good_levels : (b : Bool) (ps : List Path) (k : ℕ) (q : Placed) → slice_get (flat_map (placed b) (map (level_at o) ps)) k ≡ Some q → Good q
  good_levels b [] k q e = absurd cc
  good_levels b (p ∷ ps) k q e =
      elim (get_split (placed b (level_at o p)) (flat_map (placed b) (map (level_at o) ps)) k q e) [
        | inl h ↦ good_level b p k q h
        | inr h ↦ good_levels b ps h.0 q h.1
      ]

  good : (p : Path) (k : ℕ) (q : Placed) → slice_get (all_placed (lists_at o p).levels) k ≡ Some q → Good q
  good p k q e =
      let ls = (lists_at o p).levels in
      elim (get_split (flat_map (placed true) ls) (flat_map (placed false) ls) k q e) [
        | inl h ↦ good_levels true (levels p) k q h
        | inr h ↦ good_levels false (levels p) h.0 q h.1
      ]

  -- ---- a denial names it
  abbrev Told : DecidingEntry → Path → Type 0
  Told named p = (found : Decided) × (decided_of (lists_at o p).levels named.number ≡ Some found) × IsNamed o p named found

  abbrev named_of : ℕ → Placed → DecidingEntry
  named_of k q = record { from = q.from; number = k + 1 }

  decided_next : (ls : List Level) (k : ℕ) (q : Placed) → slice_get (all_placed ls) k ≡ Some q → decided_of ls (k + 1) ≡ Some (decided (k + 1) q)
  decided_next ls k q e =
      let no : nat_eq (k + 1) 0 ≡ false = grind (arith, nat_tests) in
      let same : k + 1 - 1 ≡ k = omega arith in
      ap (λ b. if b then None else option_map (decided (k + 1)) (slice_get (all_placed ls) (k + 1 - 1))) no
      ∙ ap (λ m. option_map (decided (k + 1)) (slice_get (all_placed ls) m)) same
      ∙ ap (option_map (decided (k + 1))) e

  standing_at_index : (p : Path) (k : ℕ) → slice_get (effective_at o p) k ≡ option_map standing (slice_get (all_placed (lists_at o p).levels) k)
  standing_at_index p k =
      let ls = (lists_at o p).levels in
      ap (λ list. slice_get list k) (sym (places_in_force ls)) ∙ slice_get-map standing (all_placed ls) k

  entry_at_index : (p : Path) (k : ℕ) → entry_in (paths_of (effective_at o p)) k ≡ option_map (named_of k) (slice_get (all_placed (lists_at o p).levels) k)
  entry_at_index p k =
      ap (option_map (λ (from : Path). record { from = from; number = k + 1 }))
      (slice_get-map (λ (e : EffectiveEntry). e.path) (effective_at o p) k ∙ ap (option_map (λ (e : EffectiveEntry). e.path)) (standing_at_index p k))
      ∙ by_place (slice_get (all_placed (lists_at o p).levels) k)
    where
      by_place : (r : Option Placed) → option_map (λ (from : Path). record { from = from; number = k + 1 }) (option_map (λ (e : EffectiveEntry). e.path) (option_map standing r)) ≡ option_map (named_of k) r
      by_place None = refl
      by_place (Some q) = refl

  told_place : (p : Path) (named : DecidingEntry) (k : ℕ) (r : Option Placed) → slice_get (all_placed (lists_at o p).levels) k ≡ r → option_map (named_of k) r ≡ Some named → Told named p
  told_place p named k None at e = absurd cc
  told_place p named k (Some q) at e =
      let fine = good p k q at in
      let same : k + 1 - 1 ≡ k = omega arith in
      subst (λ m. Told m p) (some_same e) (
        decided (k + 1) q,
        decided_next (lists_at o p).levels k q at,
        record {
          from = refl;
          number = refl;
          place = fine.0;
          there = fine.1;
          in_force = ap (slice_get (effective_at o p)) same ∙ standing_at_index p k ∙ ap (option_map standing) at;
        },
      )

  told_index : (p : Path) (named : DecidingEntry) (index : Option ℕ) → deciding_entry (paths_of (effective_at o p)) index ≡ Some named → Told named p
  told_index p named None e = absurd cc
  told_index p named (Some k) e =
      told_place p named k (slice_get (all_placed (lists_at o p).levels) k) refl (sym (entry_at_index p k) ∙ e)

  told_at : (circle : CircleOf) (p : Path) (set : Leaf → Bool) (denial : Denial) (named : DecidingEntry) → IsDeniedAt o circle p set denial → denial.entry ≡ Some named → Told named denial.resource
  told_at circle p set denial named d e =
      subst (Told named) (sym d.resource) (told_index p named d.index (sym d.entry ∙ e))

  told_first : (circle : CircleOf) (to : Option Destination) (target : Path) (needs : List Need) (denial : Denial) (named : DecidingEntry)
      → IsFirstDenial o circle to target needs denial → denial.entry ≡ Some named → Told named denial.resource
  told_first circle to target [] denial named d e = absurd d
  told_first circle to target (need ∷ rest) denial named (inl d) e = told_at circle _ need.set denial named d e
  told_first circle to target (need ∷ rest) denial named (inr d) e = told_first circle to target rest denial named d.1 e

pub denials_named : DenialsNameTheEntry
denials_named o ready denial named d e = told_first o d.circle _ _ _ denial named d.denied e
