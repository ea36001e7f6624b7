use Rattle.std.proofs.Common.{string_bytes, ◌∙◌}
use Rattle.std.proofs.lemmas.Result.{on_ok_weaker}
use Rattle.book_policy_checks.proofs.Reported.{adds_fault}
use Rattle.book_policy_checks.proofs.reports.push_fault.Goals as goal

pub returns : goal.returns
returns c =
    on_ok_weaker c.push_parts.result
    (adds_fault (string_bytes c.args.text.now) (string_bytes c.push_parts.new.text) c.as_str.result.now c.one_line.result.now c.args.fault.now
    (c.as_str.ensures.value ∙ c.in_ok-place.ensures) c.one_line.ensures)
    c.push_parts.ensures
