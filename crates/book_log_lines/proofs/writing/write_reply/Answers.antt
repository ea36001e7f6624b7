use Rattle.book_log_lines.proofs.Common.{ap, ◌∙◌, on_ok_weaker, five_told}
use Rattle.book_json_lines.specs.Objects.{told_members}
use Rattle.book_log_lines.specs.Lines.{answer_members, asked_members, denied_if, edit_members, stamp_members}
use Rattle.book_log_lines.proofs.writing.write_reply.Goals as goal

pub returns : goal.returns
returns c =
    let l = c.args.line.now in
    on_ok_weaker c.write_edit.result (λ last. last
    ∙ ap (λ s. told_members s (edit_members l)) (c.in_ok-write_denied_if.ensures
    ∙ ap (λ s. told_members s (denied_if l.denied)) (c.in_ok-write_answer.ensures
    ∙ ap (λ s. told_members s (answer_members l)) (c.in_ok-write_asked.ensures
    ∙ ap (λ s. told_members s (asked_members l)) c.in_ok-write_stamp.ensures)))
    ∙ five_told c.args.out.now (stamp_members l) (asked_members l) (answer_members l) (denied_if l.denied) (edit_members l)) c.write_edit.ensures
