use Rattle.book_questions_json.proofs.Common.{◌∙◌, ap}
use Rattle.serde_json.specs.Written.{has_float}
use Rattle.book_questions_json.proofs.Floats.{held_no_float}
use Rattle.book_questions_json.proofs.held.push_holding.Goals as goal

pub push_line-requires : goal.push_line-requires
push_line-requires c =
    ap has_float c.in_ok-value.ensures
    ∙ held_no_float (record { place = c.args.place.now; cards = c.args.cards; caller = c.args.caller.now; set = c.args.set })
