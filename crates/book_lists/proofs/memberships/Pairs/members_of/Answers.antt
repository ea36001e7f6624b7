use Rattle.book_lists.proofs.Common.{◌≡◌, ◌∷◌, [], sym, ap, ◌∙◌, subst, true, false, pairs_in}
use Rattle.std.proofs.Common.{rules}
use Rattle.std.specs.FinSet as set
use Rattle.book_lists.specs.Memberships.{Memberships, members_of}
use Rattle.book_lists.proofs.MembersOf.{Gathers, gathers_begins, gathers_held, gathers_other, gathers_end}
use Rattle.book_lists.proofs.memberships.Pairs.members_of.Goals as goal

pub loop-member-init : goal.loop-member-init
loop-member-init c =
    let entries = c.self.inside.groups.entries in
    let items : c.into_iter-member-iterator.result ≡ entries = search rules in
    record {
      next = search rules;
      finite = search rules;
      gathers = rw (items, c.new-pairs.ensures, ← c.self.view_is) (gathers_begins entries c.args.group.now);
    }

pub loop-member-preserved-in_ok-add : goal.loop-member-preserved-in_ok-add
loop-member-preserved-in_ok-add c =
    let step : c.loop-member.member-iterator ≡ (c.in-Some.member.now, c.in-Some.groups.now) ∷ c.next.new.self = search rules in
    let whole = members_of c.args.self.now c.args.group.now in
    let before = subst (λ es. Gathers es c.args.group.now c.loop-member.pairs whole) step c.loop-member.invariant.gathers in
    let held : set.contains c.in-Some.groups.now c.args.group.now ≡ true = sym c.has.ensures ∙ c.if-has.true in
    record {
      next = search rules;
      finite = search rules;
      gathers = rw (c.in_ok-add.ensures.ok, c.in_ok-clone.ensures.cases, c.in_ok-clone-2.ensures.cases) (
          gathers_held c.in-Some.member.now c.in-Some.groups.now c.next.new.self c.args.group.now c.loop-member.pairs whole held before);
    }

pub loop-member-preserved : goal.loop-member-preserved
loop-member-preserved c =
    let step : c.loop-member.member-iterator ≡ (c.in-Some.member.now, c.in-Some.groups.now) ∷ c.next.new.self = search rules in
    let whole = members_of c.args.self.now c.args.group.now in
    let before = subst (λ es. Gathers es c.args.group.now c.loop-member.pairs whole) step c.loop-member.invariant.gathers in
    record {
      next = search rules;
      finite = search rules;
      gathers = gathers_other c.in-Some.member.now c.in-Some.groups.now c.next.new.self c.args.group.now c.loop-member.pairs whole (sym c.has.ensures ∙ c.if-has.false) before;
    }

pub returns : goal.returns
returns c =
    let over : c.loop-member.member-iterator ≡ [] = c.in-None.ensures.steps.0 in
    let whole = members_of c.args.self.now c.args.group.now in
    gathers_end c.args.group.now c.loop-member.pairs whole (subst (λ es. Gathers es c.args.group.now c.loop-member.pairs whole) over c.loop-member.invariant.gathers)
