use Rattle.book_wire_json.proofs.Common.{◌≡◌, ◌++◌, ◌+◌, List, ℕ, Data, ap, ◌∙◌, arith, length, map}
use Rattle.std.proofs.Common.{codes, ◌-◌, ◌≤◌}
use Rattle.std.proofs.lemmas.Result.{on_ok_weaker}
use Rattle.json.specs.Print.{quoted}
use Rattle.book_office_sync.specs.Tokens.{token_text}
use Rattle.book_wire_json.specs.SyncReports.{item_data, remaining_data}
use Rattle.book_wire_json.proofs.Joined.{end_piece, front_piece, item_told, past_remaining, remaining_told}
use Rattle.book_wire_json.proofs.pieces.push_report.Goals as goal

pub returns-then-index-eq0 : goal.returns-then-index-eq0
returns-then-index-eq0 c =
    let book : List ℕ = c.args.report.now.token.book in
    let ds : List Data = map (item_data book) c.args.report.now.items ++ remaining_data book c.args.report.now.truncated in
    on_ok_weaker c.push_str.result (λ last. last
    ∙ ap (λ t. c.args.out.now.items ++ t) (front_piece (codes "{\"responses\":[") (codes "],\"sync-token\":" ++ quoted (token_text c.args.report.now.token) ++ codes "}") ds c.args.index c.if-index-eq0.true)) c.push_str.ensures

pub returns-then-place-items : goal.returns-then-place-items
returns-then-place-items c =
    let book : List ℕ = c.args.report.now.token.book in
    let place : ℕ = c.args.index - 1 in
    let next : c.args.index ≡ place + 1 = omega (arith, c.if-index-eq0.false) in
    let more : List Data = remaining_data book c.args.report.now.truncated in
    on_ok_weaker c.push_item.result (λ last. last
    ∙ ap (λ t. c.args.out.now.items ++ t)
    (item_told (codes "{\"responses\":[") (codes "],\"sync-token\":" ++ quoted (token_text c.args.report.now.token) ++ codes "}") (item_data book) c.args.report.now.items more c.args.index place c.index-items-place.result c.is_later.result next
    (rw c.as_slice-items.ensures at c.if-place-items.true) (rw c.as_slice-items.ensures at c.index-items-place.is) c.is_later.ensures.first c.is_later.ensures.later)) c.push_item.ensures

pub returns-then-is_cut : goal.returns-then-is_cut
returns-then-is_cut c =
    let next : c.args.index ≡ (c.args.index - 1) + 1 = omega (arith, c.if-index-eq0.false) in
    let cut = c.is_cut.ensures.cut c.if-is_cut.true in
    on_ok_weaker c.push_remaining.result (λ last. last
    ∙ ap (λ t. c.args.out.now.items ++ t)
    (remaining_told c.args.report.now c.args.index (c.args.index - 1) c.is_later-then-is_cut.result cut.0 next cut.1 c.is_later-then-is_cut.ensures.first c.is_later-then-is_cut.ensures.later))
    c.push_remaining.ensures

pub returns : goal.returns
returns c =
    let book : List ℕ = c.args.report.now.token.book in
    let place : ℕ = c.args.index - 1 in
    let ds : List Data = map (item_data book) c.args.report.now.items ++ remaining_data book c.args.report.now.truncated in
    let next : c.args.index ≡ place + 1 = omega (arith, c.if-index-eq0.false) in
    let past : length ds ≤ place =
    past_remaining book c.args.report.now.items c.args.report.now.truncated place (rw c.as_slice-items.ensures at c.if-place-items.false) (c.is_cut.ensures.whole c.if-is_cut.false) in
    on_ok_weaker c.push_report_end.result (λ last. last
    ∙ ap (λ t. c.args.out.now.items ++ t) (end_piece (codes "{\"responses\":[") (codes "],\"sync-token\":" ++ quoted (token_text c.args.report.now.token) ++ codes "}") ds c.args.index place next past c.requires)) c.push_report_end.ensures
