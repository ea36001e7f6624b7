use Rattle.book_machine.proofs.Common.{IsTrue, None, inr, refl, ap, Submitted, TellsWhether}
use Rattle.book_machine.proofs.AskingEach.{asked_first, asked_then}
use Rattle.book_machine.specs.Asking.{TellsCheckedEntry}
use Rattle.book_machine.specs.Stages.{IsKnownWho}
use Rattle.book_machine.proofs.machine.Machine.checked_entry.Goals as goal

pub returns : goal.returns
returns g c = asked_then _ _ _ _ (λ o r. TellsCheckedEntry o c.args.entry.now r)
    (asked_first _ _ c.in_ok-is_known.field-0 (λ o r. TellsWhether (IsKnownWho o c.args.entry.now.who) r) c.in_ok-is_known.ensures)
    (λ n. refl)
    (λ o told. inr (
      λ known. let there : IsTrue c.in_ok-is_known.field-0 = told.1 known in absurd (cc (there, c.if-branch.false)),
      ap (λ (s : Submitted). record s { who = None }) c.in_ok-copy.ensures,
    ))
