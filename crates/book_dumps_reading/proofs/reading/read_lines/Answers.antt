use Rattle.std.proofs.Common.{◌≡◌, ◌++◌, List, ℕ, map, sym, ap, ◌∙◌, append_assoc}
use Rattle.std.specs.List.{concat}
use Rattle.book_dumps.specs.Lines.{line_text}
use Rattle.book_dumps.specs.declared.lines.Line.{Line}
use Rattle.book_dumps_reading.specs.Reading.{told_text}
use Rattle.book_dumps_reading.proofs.Texts.{lines_more}
use Rattle.book_dumps_reading.proofs.reading.read_lines.Goals as goal

pub loop-lines-preserved : goal.loop-lines-preserved
loop-lines-preserved c =
    let ls = c.loop-lines.lines in
    let l = c.in-Resource.resource in
    let told : List ℕ = concat (map line_text ls) in
    let after : List ℕ = c.in_ok-line.after.now in
    let line : c.in_ok-line.line.now ≡ line_text l = c.in_ok-resource.ensures ∙ ap told_text c.in-Resource.is in
    c.loop-lines.invariant
    ∙ ap (λ t. told ++ t) (c.in_ok-line.ensures.whole ∙ ap (λ t. t ++ after) line)
    ∙ sym (append_assoc told (line_text l) after)
    ∙ ap (λ t. t ++ after) (sym (lines_more ls l))
    ∙ ap (λ (xs : List Line). concat (map line_text xs) ++ after) (sym c.in_ok-push-in-Resource.ensures.ok)
