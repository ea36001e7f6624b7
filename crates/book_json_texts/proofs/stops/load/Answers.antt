use Rattle.std.proofs.Common.{◌-◌, length, take, drop, sym, ap, ◌∙◌, arith}
use Rattle.std.proofs.lemmas.List.{length-drop, take-take, take_rest}
use Rattle.book_json_texts.proofs.stops.load.Goals as goal

pub returns-then-rest-lt16 : goal.returns-then-rest-lt16
returns-then-rest-lt16 c k few within =
    let text = c.args.text.now in
    let rest = drop c.args.at text in
    let whole = rw (take_rest text c.args.at) at c.padded.ensures in
    sym (take-take k (length rest) c.padded.result (omega (arith, length-drop c.args.at text))) ∙ ap (take k) whole

pub returns : goal.returns
returns c k few within =
    let text = c.args.text.now in
    take-take k 16 (take (length text - c.args.at) (drop c.args.at text)) few ∙ ap (take k) (take_rest text c.args.at)
