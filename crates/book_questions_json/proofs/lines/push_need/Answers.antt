use Rattle.book_questions_json.proofs.Common.{◌∙◌, ap}
use Rattle.serde_json.specs.Written.{has_float}
use Rattle.book_questions_json.specs.Facts.{need_fact}
use Rattle.book_questions_json.proofs.Floats.{no_float}
use Rattle.book_questions_json.proofs.lines.push_need.Goals as goal

pub push_line-requires : goal.push_line-requires
push_line-requires c = ap has_float c.in_ok-value.ensures ∙ no_float (need_fact c.args.chains.now c.args.why.now)
