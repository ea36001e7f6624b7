-- The text of lines, one after the other.
use Rattle.std.proofs.Common.{◌≡◌, List, [], ◌∷◌, ◌++◌, ap, ◌∙◌, map, append-nil}
use Rattle.std.specs.List.{concat}
use Rattle.std.proofs.lemmas.List.Folds.{concat-append}
use Rattle.std.proofs.lemmas.List.{map-append}
use Rattle.book_dumps.specs.Lines.{line_text}
use Rattle.book_dumps.specs.declared.lines.Line.{Line}

-- lines and one more
pub lines_more : (ls : List Line) (l : Line) → concat (map line_text (ls ++ l ∷ [])) ≡ concat (map line_text ls) ++ line_text l
lines_more ls l =
    ap concat (map-append line_text ls (l ∷ []))
    ∙ concat-append (map line_text ls) (line_text l ∷ [])
    ∙ ap (λ t. concat (map line_text ls) ++ t) (append-nil (line_text l))
