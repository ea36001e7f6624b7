-- What was written to its end is what the command writes, and what was refused has the failure that is told.
use Rattle.book_desk_app.proofs.Common.{◌≡◌, ℕ, List, IfSome, Some, Ok, Err, Option}
use Rattle.std.proofs.Common.{OnOk, IfErr, None}
use Rattle.std.specs.Io.KnownBytes.{Appends}
use Rattle.std.specs.declared.result.Result.{Result}
use Rattle.book_desk_app.specs.TextRuns.{Does, Refuses, Writes}
use Rattle.book_desk_app.specs.declared.text_commands.TextCommand.{TextCommand}
use Rattle.book_desk_app.specs.declared.text_commands.TextCommand.TheVariants.{Explain, Card, Help}
use Rattle.book_desk_app.specs.declared.text_failures.TextFailure.{TextFailure}
use Rattle.book_desk_app.specs.declared.text_failures.TextFailure.TheVariants.{Output}

-- the text was the input
does : (command : TextCommand) (input : Option (List ℕ)) (text written : List ℕ) (old new : Option (List ℕ)) →
    IfSome input (λ bytes. text ≡ bytes) → Writes command text written → Appends old new written → Does command input old new
does command None text written old new told writes appends = tt
does command (Some bytes) text written old new told writes appends = (written, rw (← told) writes, appends)

pub does_ok : {E : Type 0} (command : TextCommand) (result : Result Unit E) (input : Option (List ℕ)) (text written : List ℕ) (old new : Option (List ℕ)) →
    IfSome input (λ bytes. text ≡ bytes) → Writes command text written → OnOk result (Appends old new written) → OnOk result (Does command input old new)
does_ok command (Ok done) input text written old new told writes appends = does command input text written old new told writes appends
does_ok command (Err failure) input text written old new told writes appends = tt

pub refuses : (command : TextCommand) (failure : TextFailure) (input : Option (List ℕ)) (text : List ℕ) →
    IfSome input (λ bytes. text ≡ bytes) → Refuses command text failure → IfSome input (λ bytes. Refuses command bytes failure)
refuses command failure None text told refused = tt
refuses command failure (Some bytes) text told refused = rw (← told) refused

-- an output that fails is a failure of each command
fails : (command : TextCommand) (input : List ℕ) → Refuses command input Output
fails Explain input = tt
fails Card input = tt
fails (Help text) input = tt

pub fails_to_print : (command : TextCommand) (result : Result Unit TextFailure) (input : Option (List ℕ)) →
    IfErr result (λ failure. failure ≡ Output) → IfErr result (λ failure. IfSome input (λ bytes. Refuses command bytes failure))
fails_to_print command (Ok done) input failed = tt
fails_to_print command (Err failure) None failed = tt
fails_to_print command (Err failure) (Some bytes) failed = rw failed (fails command bytes)
