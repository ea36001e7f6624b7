-- The text that states what a decision rests on.
use Rattle.std.specs.Prelude.{◌≡◌, ◌⊎◌, ℕ, Bool, List, Option, Some, None, Result, Ok, Err, if◌then◌else◌}
use Rattle.book_rights.specs.declared.privileges.Leaf.{Leaf}
use Rattle.book_office_values.specs.declared.offices.Office.{Office}
use Rattle.book_office_values.specs.declared.paths.Path.{Path}
use Rattle.book_machine.specs.Needing.{mapped_at}
use Rattle.book_machine.specs.Stages.{◌>>=◌, caller_of}
use Rattle.book_machine.specs.declared.refusals.Refusal.{Refusal}
use Rattle.book_machine.specs.declared.refusals.Refusal.TheVariants.{Unavailable}
use Rattle.book_questions_asked.specs.Lines.{stated_text}
use Rattle.book_questions_asked.specs.Stated.{IsStated, fits}
use Rattle.book_questions_asked.specs.declared.stated.Asked.{Asked}
use Rattle.book_questions_asked.specs.declared.stated.Stated.{Stated}

-- of whom it is asked, and where; or the refusal of an unknown person, or else of a path at which nothing is mapped
abbrev pub asked_at : Office → Option (List ℕ) → Option Path → Result Asked Refusal
asked_at o name p = caller_of o name >>= λ caller. mapped_at o p >>= λ at. Ok (record { caller = caller; at = at })

-- the text of what is stated; none where `explain` does not take as much
abbrev pub told_of : Stated → Option (List ℕ)
told_of stated = if fits stated then Some (stated_text stated) else None

-- the text of what is stated of an Office, or none
abbrev pub IsTold : Office → Asked → (Leaf → Bool) → Option (List ℕ) → Type 0
IsTold o asked set told = (stated : Stated) × IsStated o asked set stated × (told ≡ told_of stated)

-- the answer: the text, or none; or the refusal, or want of memory or a failed store
abbrev pub TellsAsk : Office → Option (List ℕ) → Option Path → (Leaf → Bool) → Result (Option (List ℕ)) Refusal → Type 0
TellsAsk o name p set (Ok told) = (asked : Asked) × (asked_at o name p ≡ Ok asked) × IsTold o asked set told
TellsAsk o name p set (Err e) = (e ≡ Unavailable) ⊎ (asked_at o name p ≡ Err e)
