use Rattle.book_wire_json.proofs.Common.{◌++◌, Data, ap, ◌∙◌}
use Rattle.std.proofs.lemmas.Result.{on_ok_weaker}
use Rattle.json.specs.Print.{print}
use Rattle.book_wire_json.specs.Rulings.{rulings_data}
use Rattle.book_wire_json.proofs.Written.{value_written}
use Rattle.book_wire_json.proofs.pieces.push_rulings.Goals as goal

pub returns : goal.returns
returns c =
    let d : Data = rulings_data c.args.rulings.now in
    on_ok_weaker c.finish.result (λ last. last
    ∙ ap (λ t. c.args.out.now.items ++ t) (ap print c.in_ok-write_rulings.ensures ∙ value_written c.begin-text.result d c.begin-text.ensures)) c.finish.ensures
