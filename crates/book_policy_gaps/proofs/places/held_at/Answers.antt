use Rattle.book_policy_gaps.proofs.Common.{◌≡◌, ◌∙◌, ◌&&◌, Bool, ap, Leaf, Standing, Office, reads_weaker}
use Rattle.book_office_listings.specs.Values.{granted_by}
use Rattle.book_policy_gaps.specs.Places.{AreHeld, place_at}
use Rattle.book_policy_gaps.specs.declared.places.Place.{Place}
use Rattle.book_policy_gaps.proofs.places.held_at.Goals as goal

pub returns : goal.returns
returns g c =
    let S0 : Standing = g.K.Keeper.standing c.args.keeper.now in
    let S1 : Standing = g.K.Keeper.standing c.place_at.new.keeper in
    let circle = c.args.circle.now in
    let path = c.args.path.now in
    let place = c.in_ok-place.place in
    reads_weaker S0 S1 place c.granted_of.result (λ (o : Office) (p : Place). p ≡ place_at o path) (λ (o : Office) (set : Leaf → Bool). AreHeld o circle path set)
    c.in_ok-place.ensures
    (λ o stands is leaf.
    c.granted_of.ensures leaf
    ∙ ap (λ (all : Leaf → Bool). all leaf && granted_by place.list circle place.here leaf) c.all.ensures
    ∙ ap (λ (p : Place). granted_by p.list circle p.here leaf) is)
