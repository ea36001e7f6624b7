-- How a server does, as JSON (RFC 8259; own profile).
use Rattle.std.specs.Prelude.{ℕ, List, [], ◌∷◌, ◌++◌, codes, Option, Some, None, option_map}
use Rattle.json.specs.Json.{Json, object, string}
use Rattle.book_json_lines.specs.Objects.{if_some, members_of, number_json}
use Rattle.book_desk_control.specs.declared.health.Counts.{Counts}
use Rattle.book_desk_control.specs.declared.health.Health.{Health}
use Rattle.book_desk_control.specs.declared.health.Sizes.{Sizes}
use Rattle.book_desk_control.specs.declared.health.Told.{Told}
use Rattle.book_desk_control.specs.declared.replies.Outcome.{Outcome}
use Rattle.book_desk_control.specs.declared.replies.Outcome.TheVariants.{Answered, Unavailable}

abbrev pub told_of : Option Counts → Told
told_of None = record { epoch = None; persons = None; groups = None; books = None; cards = None }
told_of (Some c) =
    record { epoch = Some c.epoch; persons = Some c.persons; groups = Some c.groups; books = Some c.books; cards = Some c.cards }

abbrev pub sizes_of : Option Sizes → Option ℕ × Option ℕ
sizes_of None = (None, None)
sizes_of (Some s) = (Some s.file, Some s.log)

-- a number, if there is one
abbrev pub number_if : List ℕ → Option ℕ → List (List ℕ × Json)
number_if name count = if_some name (option_map number_json count)

-- keys in byte order
abbrev pub first_told : Health → Told → List (List ℕ × Json)
first_told h t =
    (codes "answered", number_json h.answered) ∷ number_if (codes "books") t.books
    ++ ((codes "came", number_json h.came) ∷ number_if (codes "cards") t.cards
    ++ (number_if (codes "epoch") t.epoch ++ (codes "faults", number_json h.faults) ∷ []))

abbrev pub second_told : Health → Told → List (List ℕ × Json)
second_told h t =
    number_if (codes "groups") t.groups
    ++ ((codes "open", number_json h.open) ∷ number_if (codes "persons") t.persons)

abbrev pub program_told : Health → List (List ℕ × Json)
program_told h =
    (codes "schema", number_json h.schema) ∷ (codes "since", string h.since.now) ∷ number_if (codes "store") (sizes_of h.store).0
    ++ (number_if (codes "store-log") (sizes_of h.store).1 ++ (codes "version", string h.version.now) ∷ [])

abbrev pub health_json : Health → Json
health_json h =
    object (members_of (first_told h (told_of h.counts) ++ (second_told h (told_of h.counts) ++ program_told h)))

-- 503 where the store shows nothing
abbrev pub outcome_by : Option Counts → Outcome
outcome_by None = Unavailable
outcome_by (Some c) = Answered

abbrev pub health_outcome : Health → Outcome
health_outcome h = outcome_by h.counts
