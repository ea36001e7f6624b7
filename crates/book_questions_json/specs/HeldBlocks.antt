-- Who holds which leaves at each place, as objects; and the answer.
use Rattle.std.specs.Prelude.{◌≡◌, ◌⊎◌, ℕ, Bool, true, false, cond, List, [], ◌∷◌, ◌++◌, map, Option, Some, None, Result, Ok, Err, if◌then◌else◌}
use Rattle.std.specs.List.{flat_map}
use Rattle.book_machine.specs.declared.refusals.Refusal.{Refusal}
use Rattle.book_machine.specs.declared.refusals.Refusal.TheVariants.{Unavailable}
use Rattle.book_office_audit.specs.Audits.{Block, in_order}
use Rattle.book_office_values.specs.Paths.{path_text}
use Rattle.book_office_values.specs.declared.offices.Office.{Office}
use Rattle.book_office_values.specs.declared.paths.Path.{Path}
use Rattle.book_questions_rights.specs.Askers.{AreAskers}
use Rattle.book_questions_rights.specs.EqualCards.{Class, classes_of}
use Rattle.book_questions_rights.specs.Lines.{card_entries, card_here, card_key, is_shared}
use Rattle.book_questions_rights.specs.Places.{asked_below, place_of}
use Rattle.book_questions_rights.specs.Rights.{asked_at}
use Rattle.book_questions_rights.specs.declared.answers.Asked.{Asked}
use Rattle.book_questions_rights.specs.declared.askers.Asker.{Asker}
use Rattle.book_questions_rights.specs.declared.places.Place.{Place}
use Rattle.book_questions_json.specs.Held.{Held, held_at, held_line}

-- who holds leaves at a place, at the text of its path
abbrev pub own_held : List Asker → Place → List Held
own_held askers place = held_at (path_text place.path) None (place.protected ++ place.own) place.here askers

-- who holds leaves at equal cards
abbrev pub class_held : List Asker → Place → Class → List Held
class_held askers place class = held_at (card_key place class.card) (Some class.count) (card_entries place class.card) (card_here class.card) askers

-- the same as objects, at the same texts
abbrev pub own_object : List Asker → Place → Block
own_object askers place = (path_text place.path, flat_map held_line (own_held askers place))

abbrev pub class_object : List Asker → Place → Class → Block
class_object askers place class = (card_key place class.card, flat_map held_line (class_held askers place class))

module _ (shared : Bool) (askers : List Asker) where
  abbrev pub own_objects : Place → List Block
  own_objects place = if cond shared false place.itself then own_object askers place ∷ [] else []

  abbrev pub class_objects : Place → Class → List Block
  class_objects place class = if cond shared (is_shared askers place class.card) true then class_object askers place class ∷ [] else []

  abbrev pub card_objects : Place → List Block
  card_objects place = flat_map (class_objects place) (classes_of place.cards)

  abbrev pub place_objects : Place → List Block
  place_objects place = own_objects place ++ card_objects place

-- the objects of each resource at the path or below it, in byte order of the paths
abbrev pub AreRightsObjects : Office → Bool → Asked → List ℕ → Type 0
AreRightsObjects o shared asked text = (askers : List Asker) × AreAskers o.pairs asked.callers askers
    × (text ≡ in_order (flat_map (place_objects shared askers) (map (place_of o) (asked_below o asked.at))))

-- the answer: the objects, or the refusal, or want of memory or a failed store
abbrev pub TellsRightsObjects : Office → Option (List ℕ) → Option Path → Bool → Result (List ℕ) Refusal → Type 0
TellsRightsObjects o name p shared (Ok text) = (asked : Asked) × (asked_at o name p ≡ Ok asked) × AreRightsObjects o shared asked text
TellsRightsObjects o name p shared (Err e) = (e ≡ Unavailable) ⊎ (asked_at o name p ≡ Err e)
