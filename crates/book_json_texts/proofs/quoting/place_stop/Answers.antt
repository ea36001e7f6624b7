use Rattle.std.proofs.Common.{ℕ, ◌+◌, ◌++◌, take, sym, ap, ◌∙◌, arith}
use Rattle.json.specs.Print.{escape_byte}
use Rattle.book_json_texts.proofs.Steps.{byte_written, placed_before}
use Rattle.book_json_texts.proofs.quoting.place_stop.Goals as goal

pub place-requires : goal.place-requires
place-requires c = omega (arith, c.requires.room, c.place_escape-after.ensures.bound, c.place_escape-after.ensures.placed.len)

pub returns-then-text-next-eq10-clause-front : goal.returns-then-text-next-eq10-clause-front
returns-then-text-next-eq10-clause-front c =
    let after : ℕ = c.place_escape-after.result in
    placed_before c.place_escape-after.new.buffer c.place.new.buffer _ c.args.end after c.place.result c.place.ensures
    (omega (arith, c.place_escape-after.ensures.placed.moved)) (omega (arith, c.requires.room, c.place_escape-after.ensures.bound, c.place_escape-after.ensures.placed.len))
    ∙ placed_before c.args.buffer.now c.place_escape-after.new.buffer _ c.args.end c.args.end after c.place_escape-after.ensures.placed (omega arith) (omega (arith, c.requires.room))

pub returns-then-text-next-eq10-clause-text : goal.returns-then-text-next-eq10-clause-text
unfolding escape_byte
returns-then-text-next-eq10-clause-text c =
    let text = c.args.text.now in
    let after : ℕ = c.place_escape-after.result in
    byte_written text (take after c.place_escape-after.new.buffer) (take c.place.result c.place.new.buffer) (c.args.at + 1) c.if-next-text.true
    (c.place.ensures.bytes ∙ ap (λ b. take after c.place_escape-after.new.buffer ++ escape_byte b) (sym c.if-text-next-eq10.true))
    ∙ byte_written text (take c.args.end c.args.buffer.now) (take after c.place_escape-after.new.buffer) c.args.at c.requires.within c.place_escape-after.ensures.placed.bytes

pub returns-clause-text : goal.returns-clause-text
returns-clause-text c =
    byte_written c.args.text.now (take c.args.end c.args.buffer.now) (take c.place_escape-after.result c.place_escape-after.new.buffer) c.args.at c.requires.within c.place_escape-after.ensures.placed.bytes

pub returns-clause-front : goal.returns-clause-front
returns-clause-front c =
    placed_before c.args.buffer.now c.place_escape-after.new.buffer _ c.args.end c.args.end c.place_escape-after.result c.place_escape-after.ensures.placed (omega arith) (omega (arith, c.requires.room))
