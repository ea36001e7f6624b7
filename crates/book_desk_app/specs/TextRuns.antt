-- What a command writes, and the input that it refuses.
use Rattle.std.specs.Prelude.{◌≡◌, ◌≢◌, ◌⊎◌, ℕ, List, Option, Some, ⊤, string_bytes, IfSome}
use Rattle.std.specs.Io.KnownBytes.{Appends, Keeps}
use Rattle.std.specs.Str.{IsUtf8}
use Rattle.book_desk_app.specs.declared.text_commands.TextCommand.{TextCommand}
use Rattle.book_desk_app.specs.declared.text_commands.TextCommand.TheVariants.{Explain, Card, Help}
use Rattle.book_desk_app.specs.declared.text_failures.InputFault.{InputFault}
use Rattle.book_desk_app.specs.declared.text_failures.InputFault.TheVariants as inputs
use Rattle.book_desk_app.specs.declared.text_failures.TextFailure.{TextFailure}
use Rattle.book_desk_app.specs.declared.text_failures.TextFailure.TheVariants as failures
use Rattle.book_desk_app.specs.TextFailures.{failure_status}
use Rattle.book_desk_app.specs.CardSummaries.{summary_text}
use Rattle.book_lists_explain.specs.Explanations.{AnswersText, IsFault}
use Rattle.book_cards.specs.CardText.{card_fault, out_of_memory}
use Rattle.book_cards.specs.Folding.{unfolded}
use Rattle.book_cards.specs.Valid.{IsCard}

-- what the command writes after it has read this input
abbrev pub Writes : TextCommand → List ℕ → List ℕ → Type 0
Writes Explain input written = IsUtf8 input × AnswersText input written
Writes Card input written = IsUtf8 input × IsCard input × (written ≡ summary_text (unfolded input))
Writes (Help text) input written = written ≡ string_bytes text

-- where the reader told its bytes, the writer holds what it held and then what the command writes
abbrev pub Does : TextCommand → Option (List ℕ) → Option (List ℕ) → Option (List ℕ) → Type 0
Does command input old new = IfSome input (λ bytes. (written : List ℕ) × Writes command bytes written × Appends old new written)

-- an input that can't be read, or that is not UTF-8
abbrev pub GivesNoText : List ℕ → InputFault → Type 0
GivesNoText input inputs.Read = ⊤
GivesNoText input inputs.NotUtf8 = IsUtf8 input → ⊥

-- the failure is one of this command, and where it is one of the input, the input has it
abbrev pub Refuses : TextCommand → List ℕ → TextFailure → Type 0
Refuses _ input failures.Output = ⊤
Refuses Explain input (failures.Input fault) = GivesNoText input fault
Refuses Explain input (failures.Explain fault) = IsUtf8 input × IsFault input fault.kind fault.line
Refuses Explain input (failures.Card fault) = ⊥
Refuses Card input (failures.Input fault) = GivesNoText input fault
Refuses Card input (failures.Explain fault) = ⊥
Refuses Card input (failures.Card fault) = IsUtf8 input × ((fault ≡ out_of_memory) ⊎ (card_fault input ≡ Some fault))
Refuses (Help text) input (failures.Input fault) = ⊥
Refuses (Help text) input (failures.Explain fault) = ⊥
Refuses (Help text) input (failures.Card fault) = ⊥

-- the command ended with the status of a failure that the input has, and only a failed output left anything written
abbrev pub Fails : TextCommand → Option (List ℕ) → Option (List ℕ) → Option (List ℕ) → ℕ → Type 0
Fails command input old new status =
    (failure : TextFailure) × (status ≡ failure_status failure) × IfSome input (λ bytes. Refuses command bytes failure) × (failure ≢ failures.Output → Keeps old new)
