use Rattle.book_policy_gaps.proofs.Common.{◌++◌, ◌∙◌, ap, string_bytes}
use Rattle.std.specs.Prelude.{codes}
use Rattle.std.proofs.Common.{append_assoc}
use Rattle.std.proofs.lemmas.Result.{on_ok_weaker}
use Rattle.book_office_values.specs.Paths.{path_text}
use Rattle.book_policy_gaps.specs.Lines.{reader_text}
use Rattle.book_policy_gaps.proofs.lines.push_opened.Goals as goal

pub returns : goal.returns
returns c =
    let old = string_bytes c.args.text.now in
    let book = path_text c.args.book.now in
    let reader = reader_text c.args.reader.now in
    let middle = codes " reads it by an entry at " in
    let tail = path_text c.args.from.now ++ codes ", and no entry of its lists closes it\n" in
    let three = codes ": " ++ (reader ++ middle) in
    on_ok_weaker c.push_from.result (λ e.
    e ∙ ap (λ text. text ++ tail) (c.in_ok-push_three.ensures
    ∙ ap (λ who. string_bytes c.push_text.new.text ++ (codes ": " ++ (who ++ middle))) c.reader_text.ensures
    ∙ ap (λ text. text ++ three) c.in_ok-push_text.ensures)
    ∙ append_assoc (old ++ book) three tail
    ∙ ap (λ rest. (old ++ book) ++ rest) (append_assoc (codes ": ") (reader ++ middle) tail ∙ ap (λ rest. codes ": " ++ rest) (append_assoc reader middle tail))
    ∙ append_assoc old book (codes ": " ++ (reader ++ (middle ++ tail))))
    c.push_from.ensures
