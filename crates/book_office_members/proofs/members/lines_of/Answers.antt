use Rattle.book_office_members.proofs.Common.{◌∙◌, true}
use Rattle.std.proofs.lemmas.Result.{IfOk-weaker}
use Rattle.book_office_members.proofs.Linking.{lines_by}
use Rattle.book_office_members.proofs.members.lines_of.Goals as goal

pub returns : goal.returns
returns c =
    IfOk-weaker c.lines_by.result _ _ (λ lines is. is ∙ lines_by c.in_ok-index.index c.args.cards.now c.args.values.now (λ q has. c.in_ok-index.ensures q (c.in_ok-wanted.ensures q ∙ has))) c.lines_by.ensures
