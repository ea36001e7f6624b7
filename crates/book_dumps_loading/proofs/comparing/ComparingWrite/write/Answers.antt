use Rattle.std.proofs.Common.{◌≡◌, ◌-◌, [], arith, drop, length, sym, take, vec_len, ◌∙◌}
use Rattle.std.proofs.lemmas.Bool.{eqb-true}
use Rattle.std.proofs.lemmas.Bool.Decides.{Decides-eqb}
use Rattle.std.proofs.lemmas.List.{nil_from_length, take_rest}
use Rattle.std.proofs.lemmas.Slice.Eq.{starts_is}
use Rattle.book_dumps_loading.proofs.Comparisons.{given_more}
use Rattle.book_dumps_loading.proofs.comparing.ComparingWrite.write.Goals as goal

pub returns-then-starts_with-clause-bytes : goal.returns-then-starts_with-clause-bytes
returns-then-starts_with-clause-bytes c =
    let held = c.args.self.now in
    let other = held.other in
    let rest = drop held.equal held.wanted.now in
    let zero : vec_len other ≡ 0 = eqb-true (vec_len other) 0 (sym c.is_empty.ensures ∙ c.if-not-is_empty.false) in
    let none : other.items ≡ [] = nil_from_length other.items (omega (arith, other.ok, zero)) in
    let starts = (starts_is Decides-eqb (take (length held.wanted.now - held.equal) rest) c.args.buf.now c.starts_with.result c.starts_with.ensures.value).0 c.if-starts_with.true in
    given_more held.wanted.now held.equal other.items c.args.buf.now none held.in_range (rw take_rest at starts)
