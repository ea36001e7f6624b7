use Rattle.book_office_listings.proofs.Common.{sym, subst, take_all, AllZip, all_leaves, effective_of}
use Rattle.book_rights.specs.Leaves.{every_leaf}
use Rattle.book_office_listings.specs.Rulings.{AreRulings}
use Rattle.book_office_listings.specs.Scanning.{IsRuledBy, IsWalk}
use Rattle.book_office_listings.proofs.Looking.{ruled_all}
use Rattle.book_office_listings.proofs.reporting.rulings.Goals as goal

pub returns : goal.returns
returns c =
    let list = effective_of c.args.levels.now in
    let circle = c.args.circle.now in
    let here = c.args.here.now in
    let deciders = c.walk-deciders.result in
    let walked : IsWalk list circle here every_leaf deciders = subst (λ set. IsWalk list circle here set deciders) c.all.ensures c.walk-deciders.ensures in
    subst (AreRulings list circle here) (sym c.from_vec.ensures)
    (ruled_all list circle here deciders walked all_leaves c.loop-leaf.rulings.items
    (subst (λ leaves. AllZip (IsRuledBy list deciders) leaves c.loop-leaf.rulings.items) (take_all c.loop-leaf.leaf-index all_leaves c.loop-leaf-test.false)
    c.loop-leaf.invariant))
