use Rattle.std.proofs.Common.{◌≡◌, sym, ap, ◌∙◌, arith}
use Rattle.std.proofs.lemmas.List.Sums.{prefix_len-le-length}
use Rattle.std.proofs.lemmas.Simd.{leading_from_mask_l, trailing_mask_l}
use Rattle.std.specs.List.{prefix_len}
use lib.Count.{count_trailing_zeros}
use Rattle.json.specs.Run.{is_plain, is_stop}
use Rattle.book_json_texts.proofs.stops.plain_count.Goals as goal

pub returns-then-found-eq0-clause-count : goal.returns-then-found-eq0-clause-count
returns-then-found-eq0-clause-count c =
    let v = c.args.bytes in
    sym (leading_from_mask_l is_stop v (sym c.stops-found.ensures ∙ c.if-found-eq0.true) ∙ c.fits-bytes.0)

pub returns-else-found-eq0-clause-count : goal.returns-else-found-eq0-clause-count
returns-else-found-eq0-clause-count c =
    let v = c.args.bytes in
    ap (count_trailing_zeros 64) c.stops-found.ensures ∙ trailing_mask_l is_stop 64 v (omega (arith, c.fits-bytes.0)) (omega (arith, c.stops-found.ensures, c.if-found-eq0.false))

pub returns-else-found-eq0-clause-bound : goal.returns-else-found-eq0-clause-bound
returns-else-found-eq0-clause-bound c =
    let v = c.args.bytes in
    let count : count_trailing_zeros 64 c.stops-found.result ≡ prefix_len is_plain v = ap (count_trailing_zeros 64) c.stops-found.ensures ∙ trailing_mask_l is_stop 64 v (omega (arith, c.fits-bytes.0)) (omega (arith, c.stops-found.ensures, c.if-found-eq0.false)) in
    omega (arith, count, prefix_len-le-length is_plain v, c.fits-bytes.0)
