use Rattle.std.proofs.Common.{subst, List, Option}
use Rattle.book_desk_connections.specs.ManyConnections.{TakesBytes}
use Rattle.book_desk_connections.specs.declared.connections.Accepted.{Accepted}
use Rattle.book_desk_connections.proofs.Fed.{fed_lost, fed_none, fed_one}
use Rattle.book_desk_connections.proofs.feeding.feed_one.Goals as goal

pub returns-then-not-takes_bytes_at-clause-fed : goal.returns-then-not-takes_bytes_at-clause-fed
returns-then-not-takes_bytes_at-clause-fed g c = fed_none _ _

pub returns-in-Ok-clause-fed : goal.returns-in-Ok-clause-fed
returns-in-Ok-clause-fed g c =
    let P : List (Option Accepted) → Type 0 = λ t. TakesBytes t c.args.place in
    let r = subst P c.as_slice.ensures.value (c.takes_bytes_at.ensures.takes c.if-not-takes_bytes_at.false) in
    let there = c.in-Ok.ensures.there r.0 r.1 in
    fed_one _ _ c.args.places.now.items c.feed_at.new.places.items c.args.place r.0 there.0 r.1 r.2 there.1 there.2 c.feed_at.ensures.count c.feed_at.ensures.others
    (λ histories log opened x. c.feed_at.ensures.served r.0 r.1 histories log opened x)

pub returns-in-Err-clause-fed : goal.returns-in-Err-clause-fed
returns-in-Err-clause-fed g c =
    let P : List (Option Accepted) → Type 0 = λ t. TakesBytes t c.args.place in
    let r = subst P c.as_slice.ensures.value (c.takes_bytes_at.ensures.takes c.if-not-takes_bytes_at.false) in
    fed_lost _ _ c.args.places.now.items c.feed_at.new.places.items c.args.place c.in-Err.fault r.0 r.1 r.2 c.in-Err.ensures.gone c.feed_at.ensures.count c.feed_at.ensures.others
    (λ histories log opened x. c.feed_at.ensures.served r.0 r.1 histories log opened x)
