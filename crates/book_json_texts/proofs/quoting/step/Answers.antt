use Rattle.std.proofs.Common.{◌≡◌, ℕ, ◌+◌, ◌-◌, ◌<◌, ◌≤◌, ◌++◌, length, take, drop, ap, ◌∙◌, arith}
use Rattle.std.specs.List.{prefix_len}
use Rattle.json.specs.Print.{escape}
use Rattle.json.specs.Run.{is_plain}
use Rattle.book_json_texts.proofs.Steps.{front_less, run_written}
use Rattle.book_json_texts.proofs.quoting.step.Goals as goal

pub returns-then-rest-plain-clause-text : goal.returns-then-rest-plain-clause-text
returns-then-rest-plain-clause-text c =
    let text = c.args.text.now in
    let rest : ℕ = length text - c.args.at in
    let short : rest ≤ 16 = omega (arith, c.if-rest-plain.true, c.plain_count-plain.ensures.bound) in
    let last : length text ≡ c.args.at + rest = omega (arith, c.requires.within) in
    let plain : rest ≤ prefix_len is_plain c.load-bytes.result = omega (arith, c.if-rest-plain.true, c.plain_count-plain.ensures.count) in
    ap (λ n. take (c.args.end + rest) c.place_chunk.new.buffer ++ escape (drop n text)) last
    ∙ run_written text c.load-bytes.result (take c.args.end c.args.buffer.now) (take (c.args.end + rest) c.place_chunk.new.buffer) c.args.at rest
    (c.load-bytes.ensures rest short (omega arith)) plain (c.place_chunk.ensures.bytes rest short)

pub returns-then-plain-eq16-clause-text : goal.returns-then-plain-eq16-clause-text
returns-then-plain-eq16-clause-text c =
    let text = c.args.text.now in
    let plain : 16 ≤ prefix_len is_plain c.load-bytes.result = omega (arith, c.if-plain-eq16.true, c.plain_count-plain.ensures.count) in
    run_written text c.load-bytes.result (take c.args.end c.args.buffer.now) (take (c.args.end + 16) c.place_chunk.new.buffer) c.args.at 16
    (c.load-bytes.ensures 16 (omega arith) (omega (arith, c.if-rest-plain.false, c.if-plain-eq16.true, c.requires.within))) plain (c.place_chunk.ensures.bytes 16 (omega arith))

pub returns-clause-front : goal.returns-clause-front
returns-clause-front c =
    let plain : ℕ = c.plain_count-plain.result in
    front_less c.place_stop.new.buffer c.place_chunk.new.buffer c.args.end (c.args.end + plain) (omega arith) c.place_stop.ensures.front
    ∙ c.place_chunk.ensures.front

pub returns-clause-text : goal.returns-clause-text
returns-clause-text c =
    let text = c.args.text.now in
    let plain : ℕ = c.plain_count-plain.result in
    let inside : c.args.at + plain < length text = omega (arith, c.if-rest-plain.false, c.requires.within) in
    let few : plain ≤ prefix_len is_plain c.load-bytes.result = omega (arith, c.plain_count-plain.ensures.count) in
    c.place_stop.ensures.text
    ∙ run_written text c.load-bytes.result (take c.args.end c.args.buffer.now) (take (c.args.end + plain) c.place_chunk.new.buffer) c.args.at plain
    (c.load-bytes.ensures plain c.plain_count-plain.ensures.bound (omega arith)) few (c.place_chunk.ensures.bytes plain c.plain_count-plain.ensures.bound)
