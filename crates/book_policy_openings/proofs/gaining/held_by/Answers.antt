use Rattle.std.proofs.Common.{sym, subst, ◌∙◌}
use Rattle.std.proofs.lemmas.Result.{IfOk-weaker}
use Rattle.book_office.specs.Sound.{IsSound}
use Rattle.book_office_values.specs.declared.offices.Office.{Office}
use Rattle.book_policy_gaps.specs.Places.{AreHeld}
use Rattle.book_policy_openings.proofs.gaining.held_by.Goals as goal

pub returns-clause-held : goal.returns-clause-held
returns-clause-held c =
    IfOk-weaker c.held_in.result _ _
    (λ set h sound.
    let same = c.in_ok-circle.ensures.kept sound in (
      c.in_ok-circle.circle,
      c.in_ok-circle.ensures.circle sound,
      subst (λ (o : Office). AreHeld o c.in_ok-circle.circle c.args.path.now set) same (h (subst IsSound (sym same) sound)),
    ))
    c.held_in.ensures.held

pub returns-clause-kept : goal.returns-clause-kept
returns-clause-kept c = λ sound.
    let same = c.in_ok-circle.ensures.kept sound in c.held_in.ensures.kept (subst IsSound (sym same) sound) ∙ same
