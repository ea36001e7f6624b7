use Rattle.book_wire_json.proofs.Common.{◌++◌, List, ℕ, ap, ◌∙◌, string}
use Rattle.std.proofs.lemmas.Result.{on_ok_weaker}
use Rattle.json.specs.Print.{print}
use Rattle.book_office_sync.specs.Tokens.{token_text}
use Rattle.book_wire_json.proofs.Written.{value_written}
use Rattle.book_wire_json.proofs.pieces.push_token.Goals as goal

pub returns : goal.returns
returns c =
    let text : List ℕ = token_text c.args.token.now in
    on_ok_weaker c.finish.result (λ last. last
    ∙ ap (λ t. c.args.out.now.items ++ t)
    (ap print c.in_ok-token.ensures ∙ value_written c.begin-text.result (string text) c.begin-text.ensures)) c.finish.ensures
