use Rattle.book_questions_rights.proofs.Common.{◌∙◌, ap}
use Rattle.std.proofs.Common.{filter, rules}
use Rattle.std.proofs.lemmas.Fn.{filter_same}
use Rattle.book_questions_rights.specs.Places.{is_named}
use Rattle.book_questions_rights.proofs.places.named.Goals as goal

pub returns : goal.returns
returns c =
    filter_same _ _ _ (λ x b f' k. search rules) _ _ c.retain.ensures.filtered
    ∙ ap (filter (is_named c.args.name.now)) c.into_vec-cards.ensures
