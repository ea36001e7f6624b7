use Rattle.book_machine.proofs.Common.{◌+◌, rules, IsTrue, All, Ok, Err, take, inl, inr, refl, subst, sym, IsMapped, MeetsAny, TellsWhether, IsMembersAnswer}
use Rattle.std.proofs.Common.{take_all}
use Rattle.std.proofs.lemmas.List.Elements.{All-get_or, All-more}
use Rattle.book_machine.proofs.AskingEach.{asked_then, one_more_asked}
use Rattle.book_machine.proofs.machine.Machine.check_members.Goals as goal

pub returns-then-not-branch : goal.returns-then-not-branch
returns-then-not-branch g c =
    let xs = c.args.members.now in
    let i = c.loop-member.member-index in
    let member = c.member-item.result in
    asked_then _ _ (Err _) _ (λ o r. MeetsAny (IsMembersAnswer o xs) r)
    (one_more_asked _ _ _ c.in_ok-is_mapped.field-0 (λ o. All (IsMapped o) (take i xs)) (λ o. TellsWhether (IsMapped o member) (Ok c.in_ok-is_mapped.field-0)) (λ o r. TellsWhether (IsMapped o member) r)
    c.loop-member.invariant c.in_ok-is_mapped.ensures (λ o before told. told))
    (λ n. inl refl)
    (λ o told. inr (
      refl,
      λ all.
          let there : IsTrue c.in_ok-is_mapped.field-0 = told.1 (subst (IsMapped o) (sym c.member-item.is) (All-get_or (IsMapped o) xs i _ c.loop-member-test.true all)) in
          absurd (cc (there, c.if-not-branch.true)),
    ))

pub loop-member-preserved : goal.loop-member-preserved
loop-member-preserved g c =
    let xs = c.args.members.now in
    let i = c.loop-member.member-index in
    let member = c.member-item.result in
    let there : IsTrue c.in_ok-is_mapped.field-0 = search rules in
    one_more_asked _ _ _ c.in_ok-is_mapped.field-0 (λ o. All (IsMapped o) (take i xs)) (λ o. All (IsMapped o) (take (i + 1) xs)) (λ o r. TellsWhether (IsMapped o member) r)
    c.loop-member.invariant c.in_ok-is_mapped.ensures
    (λ o before told. All-more (IsMapped o) xs i _ c.loop-member-test.true before (subst (IsMapped o) c.member-item.is (told.0 there)))

pub returns : goal.returns
returns g c =
    let xs = c.args.members.now in
    let i = c.loop-member.member-index in
    asked_then _ _ (Ok tt) (λ o. All (IsMapped o) (take i xs)) (λ o r. MeetsAny (IsMembersAnswer o xs) r) c.loop-member.invariant (λ n. refl)
    (λ o told. subst (All (IsMapped o)) (take_all i xs c.loop-member-test.false) told)
