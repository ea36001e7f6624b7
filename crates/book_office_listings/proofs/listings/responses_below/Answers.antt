use Rattle.book_office_listings.proofs.Common.{◌≡◌, ◌++◌, [], ◌∙◌, append-nil, sym, subst, AllZip, IsChildResponse}
use Rattle.std.specs.Vec.Iter.{into_iter_items}
use Rattle.book_office_listings.proofs.ReadingLaws.{none_left}
use Rattle.book_office_listings.proofs.listings.responses_below.Goals as goal

pub returns : goal.returns
returns c =
    let find = c.args.find.now in
    let circle = c.args.circle.now in
    let whole = c.args.whole.now in
    let path = c.args.path.now in
    let levels = c.args.levels.now in
    let loop = c.loop-child.invariant in
    let rest = into_iter_items c.loop-child.child-iterator in
    let read : into_iter_items c.into_iter-child-iterator.result ≡ c.into_vec-child-items.result.items = c.into_iter-child-iterator.ensures.into_iter_gives.0 in
    let done = loop.parts [] (none_left (IsChildResponse find circle whole path levels) rest (sym loop.count ∙ c.in-None.ensures.steps.0)) in
    subst (λ responses. AllZip (IsChildResponse find circle whole path levels) c.args.children responses) (append-nil c.loop-child.responses.items)
    (subst (λ children. AllZip (IsChildResponse find circle whole path levels) children (c.loop-child.responses.items ++ [])) (read ∙ c.into_vec-child-items.ensures) done)
