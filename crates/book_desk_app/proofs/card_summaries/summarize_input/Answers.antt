use Rattle.book_desk_app.proofs.Common.{string_bytes}
use Rattle.std.proofs.lemmas.Str.{IsUtf8-string_bytes}
use Rattle.book_desk_app.specs.declared.text_commands.TextCommand.TheVariants as commands
use Rattle.book_desk_app.specs.declared.text_failures.TextFailure.TheVariants as failures
use Rattle.book_desk_app.proofs.Answering.{does_ok, fails_to_print, refuses}
use Rattle.book_desk_app.proofs.card_summaries.summarize_input.Goals as goal

pub returns-in-Ok-clause-written : goal.returns-in-Ok-clause-written
returns-in-Ok-clause-written g c =
    does_ok commands.Card c.print.result _ _ (string_bytes c.in-Ok.told) _ _ (rw c.in-Some.is at c.in_ok-found.ensures.text)
    (IsUtf8-string_bytes c.in-Some.text, (rw (← c.as_str.ensures.value) c.in-Ok.ensures.told.0), (rw (← c.as_str.ensures.value) c.in-Ok.ensures.told.1))
    (rw (← c.as_str-in-Ok.ensures.value) c.print.ensures.written)

pub returns-in-Ok-clause-refused : goal.returns-in-Ok-clause-refused
returns-in-Ok-clause-refused g c = fails_to_print commands.Card c.print.result _ c.print.ensures.failed

pub returns-clause-refused : goal.returns-clause-refused
returns-clause-refused g c =
    refuses commands.Card (failures.Card c.in-Err.fault) _ _ (rw c.in-Some.is at c.in_ok-found.ensures.text)
    (IsUtf8-string_bytes c.in-Some.text, rw (← c.as_str.ensures.value) c.in-Err.ensures.faulty)
