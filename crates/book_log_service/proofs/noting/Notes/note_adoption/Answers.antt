use Rattle.std.proofs.Common.{List, ℕ, sym, subst}
use Rattle.book_log_service.proofs.Appended.{gains_text}
use Rattle.book_log_service.specs.Texts.{IsAdoption, IsTextWith}
use Rattle.book_log_service.proofs.noting.Notes.note_adoption.Goals as goal

pub returns-in-Ok-clause-noted : goal.returns-in-Ok-clause-noted
returns-in-Ok-clause-noted g c =
    let P : List ℕ → Type 0 = λ text. IsTextWith (IsAdoption c.args.adopted c.args.epoch) text in
    gains_text _ _ c.as_slice.result.now (IsAdoption c.args.adopted c.args.epoch) c.append.ensures.noted (subst P (sym c.as_slice.ensures) c.in-Ok.ensures)
