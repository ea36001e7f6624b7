-- The text of lines, one after the other.
use Rattle.book_log_denials.proofs.Common.{◌≡◌, List, [], ◌∷◌, ◌++◌, ap, ◌∙◌, map, append-nil, concat}
use Rattle.std.proofs.lemmas.List.Folds.{concat-append}
use Rattle.std.proofs.lemmas.List.{map-append}
use Rattle.book_log_lines.specs.Lines.{line_text}
use Rattle.book_log_lines.specs.declared.lines.Line.{Line}
use Rattle.book_log_denials.specs.Reading.{log_text}

-- lines and one more
pub lines_more : (ls : List Line) (l : Line) → log_text (ls ++ l ∷ []) ≡ log_text ls ++ line_text l
lines_more ls l =
    ap concat (map-append line_text ls (l ∷ []))
    ∙ concat-append (map line_text ls) (line_text l ∷ [])
    ∙ ap (λ t. log_text ls ++ t) (append-nil (line_text l))
