use Rattle.book_wire_json.proofs.Common.{◌≡◌, ◌++◌, ◌+◌, List, ℕ, Data, ap, ◌∙◌, arith, length, map}
use Rattle.std.proofs.Common.{codes, ◌-◌, ◌≤◌}
use Rattle.std.proofs.lemmas.List.{length-map}
use Rattle.std.proofs.lemmas.Result.{on_ok_weaker}
use Rattle.serde_json.specs.Written.{compact_text}
use Rattle.book_wire_json.specs.Members.{hrefs_data, line_data}
use Rattle.book_wire_json.proofs.Joined.{end_piece, front_piece, item_only}
use Rattle.book_wire_json.proofs.pieces.push_members.Goals as goal

pub returns-then-index-eq0 : goal.returns-then-index-eq0
returns-then-index-eq0 c =
    on_ok_weaker c.push_str.result (λ last. last
    ∙ ap (λ t. c.args.out.now.items ++ t) (front_piece (codes "{\"members\":[") (codes "],\"reached\":" ++ compact_text (hrefs_data c.args.book.now c.args.members.now.reached) ++ codes "}") (map (line_data c.args.book.now) c.args.members.now.lines) c.args.index c.if-index-eq0.true)) c.push_str.ensures

pub returns-then-place-lines : goal.returns-then-place-lines
returns-then-place-lines c =
    let place : ℕ = c.args.index - 1 in
    let next : c.args.index ≡ place + 1 = omega (arith, c.if-index-eq0.false) in
    on_ok_weaker c.push_line.result (λ last. last
    ∙ ap (λ t. c.args.out.now.items ++ t)
    (item_only (codes "{\"members\":[") (codes "],\"reached\":" ++ compact_text (hrefs_data c.args.book.now c.args.members.now.reached) ++ codes "}") (line_data c.args.book.now) c.args.members.now.lines c.args.index place c.index-lines-place.result c.is_later.result next
    (rw c.as_slice-lines.ensures at c.if-place-lines.true) (rw c.as_slice-lines.ensures at c.index-lines-place.is) c.is_later.ensures.first c.is_later.ensures.later)) c.push_line.ensures

pub returns : goal.returns
returns c =
    let place : ℕ = c.args.index - 1 in
    let ds : List Data = map (line_data c.args.book.now) c.args.members.now.lines in
    let next : c.args.index ≡ place + 1 = omega (arith, c.if-index-eq0.false) in
    let past : length ds ≤ place = omega (arith, rw c.as_slice-lines.ensures at c.if-place-lines.false, length-map c.args.members.now.lines (line_data c.args.book.now)) in
    on_ok_weaker c.push_members_end.result (λ last. last
    ∙ ap (λ t. c.args.out.now.items ++ t) (ap (λ ns. codes "],\"reached\":" ++ compact_text (hrefs_data c.args.book.now ns) ++ codes "}") c.as_slice.ensures ∙ end_piece (codes "{\"members\":[") (codes "],\"reached\":" ++ compact_text (hrefs_data c.args.book.now c.args.members.now.reached) ++ codes "}") ds c.args.index place next past c.requires)) c.push_members_end.ensures
