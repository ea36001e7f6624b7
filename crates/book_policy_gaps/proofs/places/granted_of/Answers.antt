use Rattle.book_policy_gaps.proofs.Common.{◌∙◌, ◌&&◌, Bool, ap, subst, read_by, bare_entries}
use Rattle.book_office_listings.specs.Scanning.{IsWalk}
use Rattle.book_policy_gaps.proofs.Granted.{granted_is}
use Rattle.book_policy_gaps.proofs.places.granted_of.Goals as goal

pub returns : goal.returns
returns c = λ leaf.
    let place = c.args.place.now in
    let circle = c.args.circle.now in
    let walked : IsWalk place.list circle place.here c.args.set c.walk.result =
    subst (λ list. IsWalk list circle place.here c.args.set c.walk.result) c.as_slice.ensures c.walk.ensures in
    c.granted.ensures c.args.set (read_by circle place.here (bare_entries place.list)) walked leaf
    ∙ ap (λ (b : Bool). c.args.set leaf && b) (granted_is circle place.here place.list leaf)
