use Rattle.book_cards.proofs.Common.{ℕ, List, subst, sym}
use Rattle.book_cards.specs.TextLines.{MakeUp}
use Rattle.book_cards.proofs.MadeUp.{relates, related}
use Rattle.book_cards.proofs.laws.lines_make_up_the_text.Goals as goal

pub returns : goal.returns
returns c = λ text all. (related all text, λ is. subst (λ (ls : List (List ℕ)). MakeUp ls text) (sym is) (relates text))
