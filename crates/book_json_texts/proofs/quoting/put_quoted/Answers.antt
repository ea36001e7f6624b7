use Rattle.std.proofs.Common.{ℕ, ◌≤◌, ◌∙◌, arith, rules}
use Rattle.book_json_texts.proofs.Steps.{front_less, placed_before}
use Rattle.book_json_texts.proofs.quoting.put_quoted.Goals as goal

pub returns-in_err-make_room-2-clause-front : goal.returns-in_err-make_room-2-clause-front
returns-in_err-make_room-2-clause-front c =
    let at : ℕ = c.args.at in
    let opened : ℕ = c.put-opened.result in
    let end : ℕ = c.in_ok-end.end in
    let before : at ≤ opened = omega (arith, c.put-opened.ensures.moved) in
    let longer : at ≤ end = omega (arith, before, c.in_ok-end.ensures.end.0) in
    front_less c.make_room-2.new.bytes.items c.put_escaped.new.bytes.items at end longer c.make_room-2.ensures.front
    ∙ front_less c.put_escaped.new.bytes.items c.put-opened.new.bytes.items at opened before c.put_escaped.ensures.front
    ∙ placed_before c.make_room.new.bytes.items c.put-opened.new.bytes.items _ at at opened c.put-opened.ensures (omega arith) (search rules)
    ∙ c.make_room.ensures.front

pub returns-clause-front : goal.returns-clause-front
returns-clause-front c =
    let at : ℕ = c.args.at in
    let opened : ℕ = c.put-opened.result in
    let end : ℕ = c.in_ok-end.end in
    let before : at ≤ opened = omega (arith, c.put-opened.ensures.moved) in
    let longer : at ≤ end = omega (arith, before, c.in_ok-end.ensures.end.0) in
    placed_before c.make_room-2.new.bytes.items c.put.new.bytes.items _ at end c.put.result c.put.ensures longer (search rules)
    ∙ front_less c.make_room-2.new.bytes.items c.put_escaped.new.bytes.items at end longer c.make_room-2.ensures.front
    ∙ front_less c.put_escaped.new.bytes.items c.put-opened.new.bytes.items at opened before c.put_escaped.ensures.front
    ∙ placed_before c.make_room.new.bytes.items c.put-opened.new.bytes.items _ at at opened c.put-opened.ensures (omega arith) (search rules)
    ∙ c.make_room.ensures.front
