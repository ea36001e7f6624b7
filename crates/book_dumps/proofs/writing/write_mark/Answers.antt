use Rattle.book_dumps.proofs.Common.{[], ◌∷◌, ◌++◌, ap, sym, ◌∙◌, codes}
use Rattle.json.specs.Token.{boolean}
use Rattle.std.proofs.Common.{true}
use Rattle.book_dumps.specs.Lines.{mark}
use Rattle.book_dumps.specs.Objects.{if_some, told_members}
use Rattle.book_dumps.proofs.writing.write_mark.Goals as goal

pub returns-in_ok-boolean : goal.returns-in_ok-boolean
returns-in_ok-boolean c =
    c.in_ok-boolean.ensures ∙ ap (λ s. s ++ boolean true ∷ []) c.in_ok-key.ensures
    ∙ ap (λ b. told_members c.args.out.now (if_some (codes "invert") (mark b))) (sym c.if-invert.true)
