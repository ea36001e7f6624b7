use Rattle.book_wire.proofs.Common.{◌≡◌, ◌-◌, take, drop, ap, ◌∙◌, arith}
use Rattle.book_wire.proofs.buffer.settle.Goals as goal

pub returns-then-more-bytes-clause-kept : goal.returns-then-more-bytes-clause-kept
returns-then-more-bytes-clause-kept c =
    let same : c.args.end - (c.args.start - c.args.start) ≡ c.args.end = omega arith in
    ap (λ n. drop c.args.start (take n c.args.bytes.now)) same

pub returns-clause-kept : goal.returns-clause-kept
returns-clause-kept c =
    let same : c.args.end - (c.args.start - 0) ≡ c.args.end - c.args.start = omega arith in
    ap (λ n. take n c.move_to_front.new.bytes) same ∙ c.move_to_front.ensures.moved
