use Rattle.book_log_lines.proofs.Common.{[], ◌∷◌, ◌++◌, ap, ◌∙◌, on_ok_weaker, object_told}
use Rattle.json.specs.Token.{end_object}
use Rattle.book_json_lines.specs.Objects.{told_members}
use Rattle.book_log_lines.specs.Lines.{line_members}
use Rattle.book_log_lines.proofs.writing.write_line.Goals as goal

pub returns : goal.returns
returns c =
    let keys = line_members c.args.line.now in
    on_ok_weaker c.end_object.result (λ last. last
    ∙ ap (λ s. s ++ end_object ∷ []) (c.in_ok-write_members.ensures ∙ ap (λ s. told_members s keys) c.in_ok-begin_object.ensures)
    ∙ object_told c.args.out.now keys) c.end_object.ensures
