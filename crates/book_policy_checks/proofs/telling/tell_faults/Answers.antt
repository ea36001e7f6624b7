use Rattle.std.proofs.Common.{◌≡◌, ◌∙◌, ℕ, List, ap, subst}
use Rattle.std.specs.Prelude.{Vec}
use Rattle.std.specs.declared.alloc.Global.{Global}
use Rattle.std.specs.Str.{IsUtf8}
use Rattle.book_policy_checks.specs.Reports.{IsReportOf}
use Rattle.book_policy_checks.proofs.Reported.{tells}
use Rattle.book_policy_checks.proofs.telling.tell_faults.Goals as goal

pub returns-in-Ok-check_policy : goal.returns-in-Ok-check_policy
returns-in-Ok-check_policy g c =
    let same : c.as_str.result.now ≡ c.args.bytes.items = c.as_str.ensures.value ∙ ap (λ (v : Vec ℕ Global). v.items) c.in-Ok.ensures.ok in
    tells c.args.bytes.items (g.W.Write.contents c.args.writer.now) (g.W.Write.contents c.tell_report.new.writer) c.in-Ok-check_policy.report
    c.tell_report.result (subst (λ (t : List ℕ). IsUtf8 t) same c.as_str.utf8)
    (subst (λ (t : List ℕ). IsReportOf t c.in-Ok-check_policy.report) same c.in-Ok-check_policy.ensures) c.tell_report.ensures
