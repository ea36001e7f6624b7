-- When a person is gone, of everybody else each list rules as before.
use Rattle.std.proofs.Common.{◌≡◌, ℕ, suc, List, [], ◌∷◌, ◌++◌, Bool, true, false, Option, Some, None, option_map, refl, ap, sym, ◌∙◌}
use Rattle.std.specs.Prelude.{not, ◌&&◌, if◌then◌else◌}
use Rattle.std.proofs.lemmas.List.Concat.{flat_map-append}
use Rattle.std.proofs.lemmas.Slice.Eq.{bytes_eq-Decides}
use Rattle.book_lists.specs.Circles.{CircleOf, belongs}
use Rattle.book_lists.specs.Deciding.{decider}
use Rattle.book_lists.specs.Decisions.{bears, denying}
use Rattle.book_lists.specs.Entries.{form_applies}
use Rattle.book_lists.specs.declared.entries.Entry.{Entry}
use Rattle.book_lists.specs.declared.entries.Here.{Here}
use Rattle.book_lists.specs.declared.entries.Who.{Who}
use Rattle.book_lists.specs.declared.entries.Who.TheVariants.{Href, Everyone, Authenticated, Unauthenticated, Owner, Own}
use Rattle.book_rights.specs.declared.privileges.Leaf.{Leaf}
use Rattle.book_dumps_changes.specs.Laws.{ruling, JoinedListsAreChangedApart, OthersAreRuledAlike}
use Rattle.book_dumps_changes.specs.Leavers.{entries_without, entry_without, names}

-- the first entry rules where it bears on the leaf, and else those after it
first_rules : (bearing : Bool) (entry : Entry) (found : Option (ℕ × Entry))
    → option_map (λ (f : ℕ × Entry). denying f.1) (if bearing then Some (0, entry) else option_map (λ (f : ℕ × Entry). (suc f.0, f.1)) found)
    ≡ (if bearing then Some entry.deny else option_map (λ (f : ℕ × Entry). denying f.1) found)
first_rules true entry found = refl
first_rules false entry None = refl
first_rules false entry (Some f) = refl

-- a form that names the person applies to nobody else
form_is_off : (person : List ℕ) (who : Who) (circle : CircleOf) (here : Here) → names person who ≡ true → belongs circle person ≡ false
    → form_applies who circle here ≡ false
form_is_off person (Href path) circle here named off = ap (belongs circle) ((bytes_eq-Decides path person).0 named) ∙ off
form_is_off person Everyone circle here named off = absurd cc
form_is_off person Authenticated circle here named off = absurd cc
form_is_off person Unauthenticated circle here named off = absurd cc
form_is_off person Owner circle here named off = absurd cc
form_is_off person Own circle here named off = absurd cc

module _ (person : List ℕ) (circle : CircleOf) (here : Here) (leaf : Leaf) (off : belongs circle person ≡ false) where
  abbrev rules : List Entry → Option Bool
  rules entries = ruling entries circle here leaf

  abbrev ruled : Bool → Bool → Option Bool → Option Bool
  ruled bearing deny found = if bearing then Some deny else found

  step : (entry : Entry) (entries : List Entry) → rules (entry ∷ entries) ≡ ruled (bears circle here leaf entry) entry.deny (rules entries)
  step entry entries = first_rules (bears circle here leaf entry) entry (decider (bears circle here) entries leaf)

  abbrev made : Who → Bool → Bool → (Leaf → Bool) → Entry
  made who invert deny set = record { who = who; invert = invert; deny = deny; set = set }

  alike_case : (who : Who) (invert deny : Bool) (set : Leaf → Bool) (rest entries : List Entry) (named : Bool) → names person who ≡ named → rules rest ≡ rules entries
      → rules ((if named then (if invert then made Everyone false deny set ∷ [] else []) else made who invert deny set ∷ []) ++ rest) ≡ rules (made who invert deny set ∷ entries)
  alike_case who true deny set rest entries true is same =
      step (made Everyone false deny set) rest
      ∙ ap (λ (found : Option Bool). ruled (true && set leaf) deny found) same
      ∙ ap (λ (form : Bool). ruled (not form && set leaf) deny (rules entries)) (sym (form_is_off person who circle here is off))
      ∙ sym (step (made who true deny set) entries)
  alike_case who false deny set rest entries true is same =
      same
      ∙ ap (λ (form : Bool). ruled (form && set leaf) deny (rules entries)) (sym (form_is_off person who circle here is off))
      ∙ sym (step (made who false deny set) entries)
  alike_case who invert deny set rest entries false is same =
      step (made who invert deny set) rest
      ∙ ap (λ (found : Option Bool). ruled (bears circle here leaf (made who invert deny set)) deny found) same
      ∙ sym (step (made who invert deny set) entries)

  alike : (entries : List Entry) → rules (entries_without person entries) ≡ rules entries
  alike [] = refl
  alike (entry ∷ entries) =
      alike_case entry.who entry.invert entry.deny entry.set (entries_without person entries) entries (names person entry.who) refl (alike entries)

pub others_alike : OthersAreRuledAlike
others_alike person entries circle here leaf off = alike person circle here leaf off entries

pub joined_apart : JoinedListsAreChangedApart
joined_apart person first last = flat_map-append (entry_without person) first last
