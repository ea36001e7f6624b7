-- The lines of rights have the words of those who hold leaves.
use Rattle.book_questions_json.proofs.Common.{◌≡◌, ◌++◌, ◌∷◌, ◌∙◌, [], ℕ, Bool, true, false, List, Option, Some, None, flat_map, refl, sym, Leaf}
use Rattle.std.specs.Prelude.{if◌then◌else◌}
use Rattle.std.proofs.lemmas.Grind.{flat_map-append}
use Rattle.std.proofs.lemmas.List.{append-nil}
use Rattle.book_rights.specs.Leaves.{no_leaf, same_leaves}
use Rattle.book_lists.specs.declared.circles.Caller.{Caller}
use Rattle.book_lists.specs.declared.entries.Entry.{Entry}
use Rattle.book_lists.specs.declared.entries.Here.{Here}
use Rattle.book_office_values.specs.Paths.{path_text}
use Rattle.book_questions_rights.specs.Lines.{card_entries, card_here, card_key, granted_by, line, lines_at}
use Rattle.book_questions_rights.specs.declared.askers.Asker.{Asker}
use Rattle.book_questions_json.specs.Held.{Held, head_words, held_at, held_if, held_words}
use Rattle.book_questions_json.specs.Laws.{RightsTellTheHeld}

line_told : (place : List ℕ) (cards : Option ℕ) (caller : Caller) (set : Leaf → Bool) → line (head_words place cards) caller set ≡ flat_map held_words (held_if place cards caller set)
line_told place cards caller set =
    elim (same_leaves set no_leaf) as (λ b. (if b then [] else held_words (record { place = place; cards = cards; caller = caller; set = set }))
    ≡ flat_map held_words (if b then [] else record { place = place; cards = cards; caller = caller; set = set } ∷ [])) [
      | true ↦ refl
      | false ↦ sym (append-nil (held_words (record { place = place; cards = cards; caller = caller; set = set })))
    ]

lines_told : (place : List ℕ) (cards : Option ℕ) (entries : List Entry) (here : Here) (askers : List Asker)
    → lines_at (head_words place cards) entries here askers ≡ flat_map held_words (held_at place cards entries here askers)
lines_told place cards entries here [] = refl
lines_told place cards entries here (asker ∷ askers) =
    let one : List Held = held_if place cards asker.caller (granted_by entries asker.circle here) in
    (λ i. line_told place cards asker.caller (granted_by entries asker.circle here) i ++ lines_told place cards entries here askers i)
    ∙ sym (flat_map-append held_words one (held_at place cards entries here askers))

pub held_told : RightsTellTheHeld
held_told = (
  λ askers place. lines_told (path_text place.path) None (place.protected ++ place.own) place.here askers,
  λ askers place class. lines_told (card_key place class.card) (Some class.count) (card_entries place class.card) (card_here class.card) askers,
)
