use Rattle.book_cards.proofs.Common.{arith, ◌<◌, sym, IsCharBoundary-after_ascii}
use Rattle.book_cards.proofs.Escapes.{escape_small, first_byte}
use Rattle.book_cards.proofs.text.escape.Goals as goal

pub range_from-requires : goal.range_from-requires
range_from-requires c =
    let first = first_byte c.args.after.now c.in_ok-byte.field-0.now (rw c.as_bytes.ensures.value at c.in_ok-byte.ensures.value) in
    let small : c.in_ok-byte.field-0.now < 128 = escape_small c.in_ok-byte.field-0.now c.in_ok-meaning.meaning (sym c.in_ok-meaning.ensures) in
    λ _. IsCharBoundary-after_ascii c.args.after.now 0 c.utf8.after first.0 (omega (arith, first.1))
