use Rattle.book_desk_app.proofs.Common.{string_bytes}
use Rattle.std.proofs.lemmas.Str.{IsUtf8-string_bytes}
use Rattle.book_desk_app.specs.declared.text_commands.TextCommand.TheVariants as commands
use Rattle.book_desk_app.specs.declared.text_failures.TextFailure.TheVariants as failures
use Rattle.book_desk_app.proofs.Answering.{does_ok, refuses}
use Rattle.book_desk_app.proofs.explaining.explain_input.Goals as goal

pub returns-in-Ok-clause-written : goal.returns-in-Ok-clause-written
returns-in-Ok-clause-written g c =
    does_ok commands.Explain c.print.result _ _ (string_bytes c.in-Ok.answer) _ _ c.in_ok-text.ensures.text
    (IsUtf8-string_bytes c.in_ok-text.text, rw (← c.as_str.ensures.value) c.in-Ok.ensures.answered)
    (rw (← c.as_str-in-Ok.ensures.value) c.print.ensures.written)

pub returns-clause-refused : goal.returns-clause-refused
returns-clause-refused g c =
    refuses commands.Explain (failures.Explain c.in-Err.fault) _ _ c.in_ok-text.ensures.text
    (IsUtf8-string_bytes c.in_ok-text.text, rw (← c.as_str.ensures.value) c.in-Err.ensures.faulty)
