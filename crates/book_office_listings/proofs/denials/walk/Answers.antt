use Rattle.book_office_listings.proofs.Common.{[], ◌++◌, subst}
use Rattle.book_office_listings.specs.Scanning.{IsWalk}
use Rattle.book_office_listings.proofs.InTurn.{protected_of, own_of, four_parts}
use Rattle.book_office_listings.proofs.denials.walk.Goals as goal

pub returns : goal.returns
returns c =
    let own = c.args.own.now in
    let above = c.args.above.now in
    let set = c.args.set in
    let one = c.go_over-deciders.ensures [] set c.start.ensures in
    let two = c.go_over-deciders-2.ensures (protected_of own) set one in
    let three = c.go_over-deciders-3.ensures (protected_of own ++ protected_of above) set two in
    subst (λ list. IsWalk list c.args.circle.now c.args.here.now set c.go_over.result) (four_parts own above)
    (c.go_over.ensures ((protected_of own ++ protected_of above) ++ own_of own) set three)
