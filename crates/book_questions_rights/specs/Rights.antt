-- Who holds which leaves where (RFC 3744, section 6; that it is told is own profile).
use Rattle.std.specs.Prelude.{◌≡◌, ◌⊎◌, ℕ, Bool, List, [], ◌∷◌, map, Option, Some, None, Result, Ok, Err}
use Rattle.std.specs.List.{flat_map}
use Rattle.book_lists.specs.declared.circles.Caller.{Caller}
use Rattle.book_machine.specs.Needing.{mapped_at}
use Rattle.book_machine.specs.Stages.{◌>>=◌, caller_of}
use Rattle.book_machine.specs.declared.refusals.Refusal.{Refusal}
use Rattle.book_machine.specs.declared.refusals.Refusal.TheVariants.{Unavailable}
use Rattle.book_office_audit.specs.Audits.{in_order}
use Rattle.book_office_values.specs.declared.offices.Office.{Office}
use Rattle.book_office_values.specs.declared.paths.Path.{Path}
use Rattle.book_questions.specs.Who.{callers_of}
use Rattle.book_questions_rights.specs.Askers.{AreAskers}
use Rattle.book_questions_rights.specs.Lines.{place_blocks}
use Rattle.book_questions_rights.specs.Places.{asked_below, place_of}
use Rattle.book_questions_rights.specs.declared.askers.Asker.{Asker}
use Rattle.book_questions_rights.specs.declared.answers.Asked.{Asked}

-- who is asked about: the person of a name, or nobody and each person
abbrev pub asked_about : Office → Option (List ℕ) → Result (List Caller) Refusal
asked_about o None = Ok (callers_of o)
asked_about o (Some name) = caller_of o (Some name) >>= λ caller. Ok (caller ∷ [])

-- who is asked about, and where; or the refusal of an unknown person, or else of a path at which nothing is mapped
abbrev pub asked_at : Office → Option (List ℕ) → Option Path → Result Asked Refusal
asked_at o name p = asked_about o name >>= λ callers. mapped_at o p >>= λ at. Ok (record { callers = callers; at = at })

-- the lines of each resource at the path or below it, in byte order of the paths
abbrev pub IsRightsText : Office → Bool → Asked → List ℕ → Type 0
IsRightsText o shared asked text = (askers : List Asker) × AreAskers o.pairs asked.callers askers
    × (text ≡ in_order (flat_map (place_blocks shared askers) (map (place_of o) (asked_below o asked.at))))

-- the answer: the text, or the refusal, or want of memory or a failed store
abbrev pub TellsRights : Office → Option (List ℕ) → Option Path → Bool → Result (List ℕ) Refusal → Type 0
TellsRights o name p shared (Ok text) = (asked : Asked) × (asked_at o name p ≡ Ok asked) × IsRightsText o shared asked text
TellsRights o name p shared (Err e) = (e ≡ Unavailable) ⊎ (asked_at o name p ≡ Err e)
