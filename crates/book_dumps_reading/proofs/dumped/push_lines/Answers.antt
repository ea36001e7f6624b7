use Rattle.std.proofs.Common.{◌≡◌, ◌∷◌, ◌++◌, ◌+◌, [], List, ℕ, map, take, sym, ap, ◌∙◌, append_assoc, arith}
use Rattle.std.specs.List.{concat}
use Rattle.std.proofs.lemmas.List.{take_more}
use Rattle.book_dumps.specs.Lines.{line_text}
use Rattle.book_dumps.specs.declared.lines.Line.{Line}
use Rattle.book_dumps_reading.proofs.Texts.{lines_more}
use Rattle.book_dumps_reading.proofs.dumped.push_lines.Goals as goal

pub loop-line-preserved : goal.loop-line-preserved
loop-line-preserved c =
    let i = c.loop-line.line-index in
    let ls = c.args.lines.now in
    let l = c.line-item.result in
    let old : List ℕ = c.args.bytes.now.items in
    let told : List ℕ = concat (map line_text (take i ls)) in
    let next : take (i + 1) ls ≡ take i ls ++ l ∷ [] = take_more ls i l (omega arith) ∙ ap (λ x. take i ls ++ x ∷ []) (sym c.line-item.is) in
    let text : c.as_slice.result.now ≡ line_text l = c.as_slice.ensures.value ∙ c.in_ok-text.ensures in
    c.in_ok-extend_from_slice.ensures.items
    ∙ ap (λ t. c.loop-line.bytes.items ++ t) text
    ∙ ap (λ s. s ++ line_text l) c.loop-line.invariant
    ∙ append_assoc old told (line_text l)
    ∙ ap (λ t. old ++ t) (sym (lines_more (take i ls) l))
    ∙ ap (λ (xs : List Line). old ++ concat (map line_text xs)) (sym next)
