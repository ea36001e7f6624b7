use Rattle.book_tables_opening.proofs.Common.{◌≡◌, pos, Some, true, rules, node_numbered}
use mir.Syntax.{w64}
use Rattle.std.proofs.Common.{FitsSigned}
use Rattle.std.specs.Int.Signed.{le_z}
use Rattle.std.proofs.lemmas.Int.{to_z-of_z}
use Rattle.book_tables_opening.proofs.Within as within
use Rattle.book_tables_opening.proofs.keys.is_within.Goals as goal

pub returns-then-key-ge1 : goal.returns-then-key-ge1
returns-then-key-ge1 c =
    let key = c.args.key.now in
    let nodes = c.args.directory.now in
    let range : FitsSigned w64 key.1 = search rules in
    let last : FitsSigned w64 c.int_at.result = search rules in
    let there : node_numbered nodes key.0 ≡ Some c.in-Some.book.now = search rules in
    let from : le_z (pos 1) key.1 ≡ true = rw (to_z-of_z w64 key.1 range) at c.if-key-ge1.true in
    rw (to_z-of_z w64 key.1 range, to_z-of_z w64 c.int_at.result last, c.int_at.ensures)
    (λ to. within.is_within nodes key c.in-Some.book.now there from to, λ w. within.goes_up nodes key c.in-Some.book.now there w)
