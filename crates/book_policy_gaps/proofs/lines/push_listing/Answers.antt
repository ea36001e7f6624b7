use Rattle.book_policy_gaps.proofs.Common.{◌++◌, ◌∙◌, ap, string_bytes}
use Rattle.std.specs.Prelude.{codes}
use Rattle.std.proofs.Common.{append_assoc}
use Rattle.std.proofs.lemmas.Result.{on_ok_weaker}
use Rattle.book_office_values.specs.Paths.{path_text}
use Rattle.book_policy_gaps.proofs.lines.push_listing.Goals as goal

pub returns : goal.returns
returns c =
    let old = string_bytes c.args.text.now in
    let name = c.args.name.now in
    let lists = codes ": lists /books, and so reads " in
    let tail = path_text c.args.book.now ++ codes "\n" in
    on_ok_weaker c.push_at.result (λ e.
    e ∙ ap (λ text. text ++ tail) (c.in_ok-push_three.ensures
    ∙ ap (λ who. old ++ (codes "person " ++ (who ++ lists))) c.text.ensures)
    ∙ append_assoc old (codes "person " ++ (name ++ lists)) tail
    ∙ ap (λ rest. old ++ rest) (append_assoc (codes "person ") (name ++ lists) tail ∙ ap (λ rest. codes "person " ++ rest) (append_assoc name lists tail)))
    c.push_at.ensures
