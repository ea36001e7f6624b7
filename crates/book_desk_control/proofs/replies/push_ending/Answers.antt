use Rattle.std.proofs.Common.{◌≡◌, ◌++◌, ◌∙◌, ap, sym, append_assoc, codes}
use Rattle.std.proofs.lemmas.Result.{on_ok_weaker}
use Rattle.book_desk_control.specs.Replies.{ending_lines, field_line}
use Rattle.book_desk_control.proofs.replies.push_ending.Goals as goal

pub returns : goal.returns
returns c =
    let a = field_line (codes "X-Exit-Status: ") c.in-Some.ending.status in
    let b = field_line (codes "X-Error-Length: ") c.in-Some.ending.told in
    let first : c.push_field.new.text ≡ c.args.text.now ++ a = c.in_ok-push_field.ensures in
    let lines : a ++ b ≡ ending_lines c.args.ending = ap ending_lines (sym c.in-Some.is) in
    on_ok_weaker c.push_field-2.result (λ second.
    second ∙ ap (λ t. t ++ b) first ∙ append_assoc c.args.text.now a b ∙ ap (λ t. c.args.text.now ++ t) lines)
    c.push_field-2.ensures
