-- A text alone is printed as a JSON text.
use Rattle.book_questions_changes.proofs.Common.{◌≡◌, ◌∷◌, [], ℕ, List}
use Rattle.std.proofs.lemmas.List.{append-nil}
use Rattle.json.specs.Print.{print, print_from, quoted}
use Rattle.json.specs.Token.{string}

pub string_alone : (text : List ℕ) → print (string text ∷ []) ≡ quoted text
unfolding print_from
string_alone text = append-nil (quoted text)
