use Rattle.book_policy_gaps.proofs.Common.{◌++◌, ◌∙◌, ap, string_bytes}
use Rattle.std.specs.Prelude.{codes}
use Rattle.std.proofs.Common.{append_assoc}
use Rattle.std.proofs.lemmas.Result.{on_ok_weaker}
use Rattle.book_office_values.specs.Paths.{path_text}
use Rattle.book_policy_gaps.proofs.lines.push_protected.Goals as goal

pub returns : goal.returns
returns c =
    let old = string_bytes c.args.text.now in
    let book = path_text c.args.book.now in
    let said = codes ": what a protected entry at " in
    let rest = path_text c.args.at.now ++ codes " grants to owners stays with who leaves a group\n" in
    on_ok_weaker c.push_at-2.result (λ e.
    e ∙ ap (λ text. text ++ rest) c.in_ok-push_at.ensures ∙ append_assoc old (book ++ said) rest ∙ ap (λ text. old ++ text) (append_assoc book said rest))
    c.push_at-2.ensures
