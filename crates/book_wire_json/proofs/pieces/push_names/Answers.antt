use Rattle.book_wire_json.proofs.Common.{◌≡◌, ◌++◌, ◌+◌, List, ℕ, Data, ap, ◌∙◌, arith, length, map}
use Rattle.std.proofs.Common.{codes, ◌-◌, ◌≤◌}
use Rattle.std.proofs.lemmas.List.{length-map}
use Rattle.std.proofs.lemmas.Result.{on_ok_weaker}
use Rattle.book_wire_json.specs.Names.{named_data}
use Rattle.book_wire_json.proofs.Joined.{end_piece, front_piece, item_only}
use Rattle.book_wire_json.proofs.pieces.push_names.Goals as goal

pub returns-then-index-eq0 : goal.returns-then-index-eq0
returns-then-index-eq0 c =
    on_ok_weaker c.push_str.result (λ last. last
    ∙ ap (λ t. c.args.out.now.items ++ t) (front_piece (codes "{\"names\":[") (codes "]}") (map (named_data c.args.book.now) c.args.names.now) c.args.index c.if-index-eq0.true)) c.push_str.ensures

pub returns-then-place-names : goal.returns-then-place-names
returns-then-place-names c =
    let place : ℕ = c.args.index - 1 in
    let next : c.args.index ≡ place + 1 = omega (arith, c.if-index-eq0.false) in
    on_ok_weaker c.push_named.result (λ last. last
    ∙ ap (λ t. c.args.out.now.items ++ t)
    (item_only (codes "{\"names\":[") (codes "]}") (named_data c.args.book.now) c.args.names.now c.args.index place c.index-names-place.result c.is_later.result next
    c.if-place-names.true c.index-names-place.is c.is_later.ensures.first c.is_later.ensures.later)) c.push_named.ensures

pub returns : goal.returns
returns c =
    let place : ℕ = c.args.index - 1 in
    let ds : List Data = map (named_data c.args.book.now) c.args.names.now in
    let next : c.args.index ≡ place + 1 = omega (arith, c.if-index-eq0.false) in
    let past : length ds ≤ place = omega (arith, c.if-place-names.false, length-map c.args.names.now (named_data c.args.book.now)) in
    on_ok_weaker c.push_str-2.result (λ last. last
    ∙ ap (λ t. c.args.out.now.items ++ t) (end_piece (codes "{\"names\":[") (codes "]}") ds c.args.index place next past c.requires)) c.push_str-2.ensures
