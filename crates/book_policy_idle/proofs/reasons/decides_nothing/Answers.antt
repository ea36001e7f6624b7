use Rattle.std.proofs.Common.{◌∙◌, Bool, List, ap, subst}
use Rattle.book_office_values.specs.declared.paths.Path.{Path}
use Rattle.book_policy_idle.specs.Idle.{is_marked}
use Rattle.book_policy_idle.specs.Marks.{AreMarksOf}
use Rattle.book_policy_idle.specs.declared.askers.Asker.{Asker}
use Rattle.book_policy_idle.proofs.Reasoning.{marked_idle}
use Rattle.book_policy_idle.proofs.reasons.decides_nothing.Goals as goal

pub returns : goal.returns
returns c =
    let es = c.args.entries.now in
    let marks = c.in_ok-marks.marks.items in
    marked_idle c.args.policy.now c.args.scope.now es marks c.args.index c.is_marked.result c.requires
    (subst (λ (ps : List Path). AreMarksOf es c.args.scope.now.askers ps marks) c.as_slice-paths.ensures
    (subst (λ (who : List Asker). AreMarksOf es who c.as_slice-paths.result.now marks) c.as_slice-asking.ensures c.in_ok-marks.ensures))
    (c.is_marked.ensures ∙ ap (λ (m : List Bool). is_marked m c.args.index) c.as_slice.ensures.value)
