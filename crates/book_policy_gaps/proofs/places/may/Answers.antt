use Rattle.book_policy_gaps.proofs.Common.{◌≡◌, ◌∙◌, ◌&&◌, Bool, ap, true, Leaf}
use Rattle.book_rights.specs.Leaves.{with_leaf}
use Rattle.book_office_listings.specs.Values.{granted_by}
use Rattle.book_policy_gaps.proofs.Granted.{alone}
use Rattle.book_policy_gaps.proofs.places.may.Goals as goal

pub returns : goal.returns
returns c =
    let place = c.args.place.now in
    let leaf = c.args.leaf in
    let has : c.with.result leaf ≡ true = ap (λ (f : Leaf → Bool). f leaf) c.with.ensures ∙ ap (λ (f : Leaf → Bool). with_leaf f leaf leaf) c.empty.ensures ∙ alone leaf in
    c.has.ensures ∙ c.granted_of.ensures leaf
    ∙ ap (λ b. b && granted_by place.list c.args.circle.now place.here leaf) has
