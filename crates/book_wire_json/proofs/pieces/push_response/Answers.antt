use Rattle.book_wire_json.proofs.Common.{◌++◌, List, ℕ, Data, ap, ◌∙◌}
use Rattle.std.proofs.Common.{append_assoc}
use Rattle.std.proofs.lemmas.Result.{on_ok_weaker}
use Rattle.json.specs.Print.{print}
use Rattle.serde_json.specs.Written.{comma_if, compact_text}
use Rattle.book_wire_json.specs.Listings.{response_data}
use Rattle.book_wire_json.proofs.Written.{value_written}
use Rattle.book_wire_json.proofs.pieces.push_response.Goals as goal

pub returns : goal.returns
returns c =
    let old : List ℕ = c.args.out.now.items in
    let d : Data = response_data c.args.response.now in
    on_ok_weaker c.finish.result (λ last. last
    ∙ ap (λ t. c.push_comma.new.out.items ++ t) (ap print c.in_ok-write_response.ensures ∙ value_written c.begin-text.result d c.begin-text.ensures)
    ∙ ap (λ s. s ++ compact_text d) c.in_ok-push_comma.ensures
    ∙ append_assoc old (comma_if c.args.later) (compact_text d)) c.finish.ensures
