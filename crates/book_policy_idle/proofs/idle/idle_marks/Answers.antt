use Rattle.std.proofs.Common.{◌∙◌, List, ap, subst}
use Rattle.std.proofs.lemmas.Result.{IfOk-weaker}
use Rattle.book_office_values.specs.declared.paths.Path.{Path}
use Rattle.book_policy_values.specs.declared.parts.PolicyEntry.{PolicyEntry}
use Rattle.book_policy_values.specs.declared.parts.PolicyTables.{PolicyTables}
use Rattle.book_policy_idle.specs.Marks.{AreMarksOf}
use Rattle.book_policy_idle.specs.declared.askers.Asker.{Asker}
use Rattle.book_policy_idle.proofs.Telling.{idle_marks}
use Rattle.book_policy_idle.proofs.idle.idle_marks.Goals as goal

pub returns : goal.returns
returns c =
    let t = c.args.policy.now in
    let askers = c.args.scope.now.askers in
    let places = c.args.scope.now.places in
    IfOk-weaker c.marks_of.result _ _
    (λ marks h.
    idle_marks t marks.items askers places c.requires.asking c.requires.there
    (subst (λ (es : List PolicyEntry). AreMarksOf es askers places marks.items) (c.as_slice-entries.ensures ∙ ap (λ (x : PolicyTables). x.entries) c.tables.ensures)
    (subst (λ (who : List Asker). AreMarksOf c.as_slice-entries.result.now who places marks.items) c.as_slice-asking.ensures
    (subst (λ (ps : List Path). AreMarksOf c.as_slice-entries.result.now c.as_slice-asking.result.now ps marks.items) c.as_slice-paths.ensures h))))
    c.marks_of.ensures
