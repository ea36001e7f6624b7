use Rattle.book_log_lines.proofs.Common.{ℕ, List, Json, ap, ◌∙◌, codes, option_map, on_ok_weaker, members_append}
use Rattle.book_json_lines.specs.Objects.{if_some, number_json, told_members, unless_empty}
use Rattle.book_log_lines.specs.Lines.{touched_list}
use Rattle.book_log_lines.proofs.writing.write_edit.Goals as goal

pub returns : goal.returns
returns c =
    let l = c.args.line.now in
    let m1 : List (List ℕ × Json) = if_some (codes "touched") (unless_empty touched_list l.touched) in
    let m2 : List (List ℕ × Json) = if_some (codes "epoch") (option_map number_json l.epoch) in
    on_ok_weaker c.number_member_if.result (λ last. last
    ∙ ap (λ s. told_members s m2) (c.in_ok-write_touched_if.ensures
    ∙ ap (λ x. told_members c.args.out.now (if_some (codes "touched") (unless_empty touched_list x))) c.as_slice.ensures)
    ∙ members_append c.args.out.now m1 m2) c.number_member_if.ensures
