use Rattle.book_cards.proofs.Common.{arith, ◌-◌, ap, sym, ◌∙◌, option_map, option_and_then, slice_get, lines, fields_of, lines_fault}
use Rattle.book_cards.specs.Views.{view}
use Rattle.book_cards.proofs.Numbers.{line_has_fields, mapped_some}
use Rattle.book_cards.proofs.card.Card.line.Goals as goal

pub unwrap-requires : goal.unwrap-requires
unwrap-requires c =
    let found = line_has_fields c.args.self.now (ap (λ t. lines_fault (lines t)) (sym c.self.view_is) ∙ c.self.invariant.0) (c.args.number - 1) (omega (arith, c.requires.low, c.requires.high)) in
    let is = c.as_str.ensures.value ∙ c.self.view_is in
    mapped_some view c.find_line.result found.1
    (c.find_line.ensures ∙ ap (λ t. option_and_then fields_of (slice_get (lines t) (c.args.number - 1))) is ∙ ap (λ o. option_and_then fields_of o) found.0 ∙ found.2)

pub returns : goal.returns
returns c =
    let found = line_has_fields c.args.self.now (ap (λ t. lines_fault (lines t)) (sym c.self.view_is) ∙ c.self.invariant.0) (c.args.number - 1) (omega (arith, c.requires.low, c.requires.high)) in
    let is = c.as_str.ensures.value ∙ c.self.view_is in
    sym (c.find_line.ensures ∙ ap (λ t. option_and_then fields_of (slice_get (lines t) (c.args.number - 1))) is ∙ ap (λ o. option_and_then fields_of o) found.0)
    ∙ ap (λ o. option_map view o) c.unwrap.ensures
