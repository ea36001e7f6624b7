use Rattle.book_wire_json.proofs.Common.{◌≡◌, ◌++◌, ◌+◌, List, ℕ, Data, ap, ◌∙◌, arith, length, map}
use Rattle.std.proofs.Common.{codes, ◌-◌, ◌≤◌}
use Rattle.std.proofs.lemmas.List.{length-map}
use Rattle.std.proofs.lemmas.Result.{on_ok_weaker}
use Rattle.book_wire_json.specs.Listings.{response_data}
use Rattle.book_wire_json.proofs.Joined.{end_piece, front_piece, item_only}
use Rattle.book_wire_json.proofs.pieces.push_listing.Goals as goal

pub returns-then-index-eq0 : goal.returns-then-index-eq0
returns-then-index-eq0 c =
    on_ok_weaker c.push_str.result (λ last. last
    ∙ ap (λ t. c.args.out.now.items ++ t) (front_piece (codes "{\"responses\":[") (codes "]}") (map (response_data) c.args.responses.now) c.args.index c.if-index-eq0.true)) c.push_str.ensures

pub returns-then-place-responses : goal.returns-then-place-responses
returns-then-place-responses c =
    let place : ℕ = c.args.index - 1 in
    let next : c.args.index ≡ place + 1 = omega (arith, c.if-index-eq0.false) in
    on_ok_weaker c.push_response.result (λ last. last
    ∙ ap (λ t. c.args.out.now.items ++ t)
    (item_only (codes "{\"responses\":[") (codes "]}") (response_data) c.args.responses.now c.args.index place c.index-responses-place.result c.is_later.result next
    c.if-place-responses.true c.index-responses-place.is c.is_later.ensures.first c.is_later.ensures.later)) c.push_response.ensures

pub returns : goal.returns
returns c =
    let place : ℕ = c.args.index - 1 in
    let ds : List Data = map (response_data) c.args.responses.now in
    let next : c.args.index ≡ place + 1 = omega (arith, c.if-index-eq0.false) in
    let past : length ds ≤ place = omega (arith, c.if-place-responses.false, length-map c.args.responses.now (response_data)) in
    on_ok_weaker c.push_str-2.result (λ last. last
    ∙ ap (λ t. c.args.out.now.items ++ t) (end_piece (codes "{\"responses\":[") (codes "]}") ds c.args.index place next past c.requires)) c.push_str-2.ensures
