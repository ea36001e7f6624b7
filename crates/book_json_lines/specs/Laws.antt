-- What the definitions imply.
use Rattle.json.specs.Json.{Json}
use Rattle.book_json_lines.specs.Lines.{HasNumerals, IsLine}
use Rattle.book_json_lines.specs.Objects.{text_line}

-- the text of a value whose numbers are numerals is a line
abbrev pub ValuesAreLines : Type 0
ValuesAreLines = (j : Json) → HasNumerals j → IsLine (text_line j)
