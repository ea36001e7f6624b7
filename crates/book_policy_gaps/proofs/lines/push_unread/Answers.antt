use Rattle.book_policy_gaps.proofs.Common.{◌++◌, ◌∙◌, ap, string_bytes}
use Rattle.std.specs.Prelude.{codes}
use Rattle.std.proofs.Common.{append_assoc}
use Rattle.std.proofs.lemmas.Result.{on_ok_weaker}
use Rattle.book_office_values.specs.Paths.{path_text}
use Rattle.book_policy_gaps.proofs.lines.push_unread.Goals as goal

pub returns : goal.returns
returns c =
    let rest = codes ": its owner " ++ (c.args.owner.now ++ codes " may not read it\n") in
    on_ok_weaker c.push_three.result (λ e.
    e ∙ ap (λ owner. string_bytes c.push_text.new.text ++ (codes ": its owner " ++ (owner ++ codes " may not read it\n"))) c.text.ensures
    ∙ ap (λ text. text ++ rest) c.in_ok-push_text.ensures
    ∙ append_assoc (string_bytes c.args.text.now) (path_text c.args.book.now) rest)
    c.push_three.ensures
