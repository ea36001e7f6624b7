use Rattle.std.proofs.Common.{refl}
use Rattle.std.proofs.lemmas.Result.{IfOk-weaker}
use Rattle.book_log_lines.specs.declared.lines.Line.TheVariants as line
use Rattle.book_log_service.proofs.texts.adoption_text.Goals as goal

pub returns : goal.returns
returns c =
    IfOk-weaker c.text_of.result _ _ (λ text is. (line.Adoption (record { time = c.args.time; epoch = c.args.epoch; adopted = c.args.adopted }), is, (c.args.time, refl))) c.text_of.ensures
