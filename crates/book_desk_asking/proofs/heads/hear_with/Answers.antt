use Rattle.std.proofs.Common.{ap, subst, length, arith}
use Rattle.std.specs.Prelude.{Ok}
use Rattle.httparse.specs.Spans.{FindsResponse}
use Rattle.httparse.specs.declared.Status.TheVariants.{Complete}
use Rattle.book_desk_asking.proofs.Found.{found_at}
use Rattle.book_desk_asking.proofs.heads.hear_with.Goals as goal

pub returns-then-spans-bytes : goal.returns-then-spans-bytes
returns-then-spans-bytes c =
    let bytes = c.args.bytes.now in
    let headers = c.parse_response.new.headers in
    let r = c.in-Ok-Complete.spans in
    let finds : FindsResponse bytes 64 headers (Ok (Complete r)) =
    subst (λ n. FindsResponse bytes n headers (Ok (Complete r))) c.told-headers (rw c.in-Ok-Complete.field-0-is at c.in-Ok-Complete.ensures.found) in
    λ h told is e. (let at = found_at bytes headers r h told finds is e in omega (arith, at.len, ap length e, c.if-spans-bytes.true))
