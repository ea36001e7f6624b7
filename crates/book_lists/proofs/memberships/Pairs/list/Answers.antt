use Rattle.book_lists.proofs.Common.{◌≡◌, ◌∷◌, ◌++◌, sym, ap, ◌∙◌, flat_map, pairs_of, set_of}
use Rattle.std.proofs.Common.{rules}
use Rattle.book_lists.proofs.GroupLists.{listed_next}
use Rattle.book_lists.proofs.memberships.Pairs.list.Goals as goal

pub loop-member-preserved : goal.loop-member-preserved
loop-member-preserved c =
    let step : c.loop-member.member-iterator ≡ (c.in-Some.member.now, c.in-Some.groups.now) ∷ c.next.new.self = search rules in
    let more = c.in_ok-append_memberships.ensures in
    record {
      next = search rules;
      finite = search rules;
      parts =
          listed_next c.loop-member.list.items c.in-Some.member.now c.in-Some.groups.now (flat_map pairs_of c.next.new.self) more.0 c.append_memberships.new.list.items more.1 more.2
          ∙ ap (λ it. set_of (c.loop-member.list.items ++ flat_map pairs_of it)) (sym step) ∙ c.loop-member.invariant.parts;
    }
