use Rattle.std.proofs.Common.{List, ℕ, sym, subst}
use Rattle.book_log_service.proofs.Appended.{gains_text}
use Rattle.book_log_service.specs.Texts.{IsTextWith}
use Rattle.book_wire_serving.specs.Logs.{IsBare}
use Rattle.book_log_service.proofs.noting.Notes.note_refusal.Goals as goal

pub returns-in-Ok-clause-noted : goal.returns-in-Ok-clause-noted
returns-in-Ok-clause-noted g c =
    let P : List ℕ → Type 0 = λ text. IsTextWith (IsBare c.args.status c.args.error.now) text in
    gains_text _ _ c.as_slice.result.now (IsBare c.args.status c.args.error.now) c.append.ensures.noted (subst P (sym c.as_slice.ensures) c.in-Ok.ensures)
