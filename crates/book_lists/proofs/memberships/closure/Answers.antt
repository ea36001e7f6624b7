use Rattle.book_lists.proofs.Common.{◌≡◌, ◌∷◌, [], sym, subst, pairs_in}
use Rattle.std.proofs.Common.{rules}
use Rattle.book_lists.specs.Memberships.{Memberships}
use Rattle.book_lists.proofs.Reaching.{Reaches, reaches_begins, reaches_grow, reaches_more, reaches_end}
use Rattle.book_lists.proofs.memberships.closure.Goals as goal

pub loop-member-init : goal.loop-member-init
loop-member-init c =
    let entries = c.pairs.inside.groups.entries in
    let items : c.into_iter-member-iterator.result ≡ entries = search rules in
    record {
      next = search rules;
      finite = search rules;
      reaches = rw (items, c.new-reach.ensures, ← c.pairs.view_is) (reaches_begins entries c.pairs.invariant.0);
    }

pub loop-member-preserved : goal.loop-member-preserved
loop-member-preserved c =
    let pairs = pairs_in c.pairs.inside.groups.entries in
    let step : c.loop-member.member-iterator ≡ (c.in-Some.member.now, c.in-Some._groups.now) ∷ c.next.new.self = search rules in
    let before : Reaches pairs ((c.in-Some.member.now, c.in-Some._groups.now) ∷ c.next.new.self) c.loop-member.reach =
    subst (λ (p : Memberships). Reaches p ((c.in-Some.member.now, c.in-Some._groups.now) ∷ c.next.new.self) c.loop-member.reach) (sym c.pairs.view_is)
    (subst (λ es. Reaches c.args.pairs.now es c.loop-member.reach) step c.loop-member.invariant.reaches) in
    let first = reaches_grow pairs c.loop-member.reach c.climb_first.new.reach ((c.in-Some.member.now, c.in-Some._groups.now) ∷ c.next.new.self) c.in_ok-climb_first.ensures before in
    record {
      next = search rules;
      finite = search rules;
      reaches = subst (λ (p : Memberships). Reaches p c.next.new.self c.complete.new.reach) c.pairs.view_is
          (reaches_more pairs c.climb_first.new.reach c.in-Some.member.now c.in-Some._groups.now c.next.new.self c.complete.new.reach c.in_ok-complete.ensures first);
    }

pub returns : goal.returns
returns c =
    let over : c.loop-member.member-iterator ≡ [] = c.in-None.ensures.steps.0 in
    reaches_end c.args.pairs.now c.loop-member.reach (subst (λ es. Reaches c.args.pairs.now es c.loop-member.reach) over c.loop-member.invariant.reaches)
