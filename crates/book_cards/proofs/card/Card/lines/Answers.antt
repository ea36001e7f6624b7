use Rattle.book_cards.proofs.Common.{Some, ap, sym, ◌∙◌, lines, lines_fault, fields_in}
use Rattle.std.proofs.Common.{map}
use Rattle.book_cards.proofs.Numbers.{lines_have_fields}
use Rattle.book_cards.proofs.card.Card.lines.Goals as goal

pub returns : goal.returns
returns c =
    lines_have_fields c.args.self.now (ap (λ t. lines_fault (lines t)) (sym c.self.view_is) ∙ c.self.invariant.0)
    ∙ ap (λ t. map Some (fields_in t)) (sym (c.as_str-rest.ensures.value ∙ c.self.view_is))
