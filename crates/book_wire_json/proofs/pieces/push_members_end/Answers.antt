use Rattle.book_wire_json.proofs.Common.{◌++◌, List, ℕ, ap, ◌∙◌}
use Rattle.std.proofs.Common.{codes}
use Rattle.std.proofs.lemmas.Result.{on_ok_weaker}
use Rattle.serde_json.specs.Written.{compact_text}
use Rattle.book_wire_json.specs.Members.{hrefs_data}
use Rattle.book_wire_json.proofs.Joined.{ended}
use Rattle.book_wire_json.proofs.pieces.push_members_end.Goals as goal

pub returns : goal.returns
returns c =
    let text : List ℕ = compact_text (hrefs_data c.args.book.now c.args.reached.now) in
    on_ok_weaker c.push_str-2.result (λ last. last
    ∙ ap (λ s. s ++ codes "}") (c.in_ok-push_hrefs.ensures ∙ ap (λ s. s ++ text) c.in_ok-push_str.ensures)
    ∙ ended c.args.out.now.items (codes "],\"reached\":") text (codes "}")) c.push_str-2.ensures
