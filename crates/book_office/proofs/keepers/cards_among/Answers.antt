use Rattle.book_office.proofs.Common.{rules, ap, ◌∙◌}
use Rattle.std.proofs.Common.{filter}
use Rattle.std.proofs.lemmas.List.Elements.{filter_from_retain}
use Rattle.book_office.specs.Resources.{is_of_card}
use Rattle.book_office.proofs.keepers.cards_among.Goals as goal

pub returns : goal.returns
returns c =
    let kept = filter_from_retain _ is_of_card (λ f change b g called. search (rules, called)) _ c.into_vec-cards.result.items c.retain.new.self.items c.retain.ensures.filtered in
    kept ∙ ap (filter is_of_card) c.into_vec-cards.ensures
