use Rattle.book_wire_json.proofs.Common.{◌++◌, List, ℕ, ap, ◌∙◌}
use Rattle.std.proofs.Common.{codes}
use Rattle.std.proofs.lemmas.Result.{on_ok_weaker}
use Rattle.json.specs.Print.{quoted}
use Rattle.book_office_sync.specs.Tokens.{token_text}
use Rattle.book_wire_json.proofs.Joined.{ended}
use Rattle.book_wire_json.proofs.pieces.push_report_end.Goals as goal

pub returns : goal.returns
returns c =
    let text : List ℕ = quoted (token_text c.args.token.now) in
    on_ok_weaker c.push_str-2.result (λ last. last
    ∙ ap (λ s. s ++ codes "}") (c.in_ok-push_token.ensures ∙ ap (λ s. s ++ text) c.in_ok-push_str.ensures)
    ∙ ended c.args.out.now.items (codes "],\"sync-token\":") text (codes "}")) c.push_str-2.ensures
