use Rattle.book_dumps.proofs.Common.{[], ◌∷◌, ◌++◌, ap, ◌∙◌}
use Rattle.std.proofs.lemmas.Result.{on_ok_weaker}
use Rattle.json.specs.Token.{end_object}
use Rattle.book_dumps.specs.Lines.{slots}
use Rattle.book_dumps.specs.Objects.{present, told_members}
use Rattle.book_dumps.proofs.Written.{object_told}
use Rattle.book_dumps.proofs.writing.write_line.Goals as goal

pub returns : goal.returns
returns c =
    let keys = present (slots c.args.line.now) in
    on_ok_weaker c.end_object.result (λ last. last
    ∙ ap (λ s. s ++ end_object ∷ []) (c.in_ok-write_slots.ensures ∙ ap (λ s. told_members s keys) c.in_ok-begin_object.ensures)
    ∙ object_told c.args.out.now keys) c.end_object.ensures
