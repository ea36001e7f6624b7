use Rattle.book_wire_json.proofs.Common.{◌++◌, Data, ap, ◌∙◌}
use Rattle.std.proofs.lemmas.Result.{on_ok_weaker}
use Rattle.json.specs.Print.{print}
use Rattle.book_wire_json.specs.Members.{hrefs_data}
use Rattle.book_wire_json.proofs.Written.{value_written}
use Rattle.book_wire_json.proofs.pieces.push_hrefs.Goals as goal

pub returns : goal.returns
returns c =
    let d : Data = hrefs_data c.args.book.now c.args.names.now in
    on_ok_weaker c.finish.result (λ last. last
    ∙ ap (λ t. c.args.out.now.items ++ t) (ap print c.in_ok-write_hrefs.ensures ∙ value_written c.begin-text.result d c.begin-text.ensures)) c.finish.ensures
