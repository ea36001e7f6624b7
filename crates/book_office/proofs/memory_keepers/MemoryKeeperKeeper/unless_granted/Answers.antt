use Rattle.book_office.proofs.Common.{true, false, refl, sym, ◌∙◌, subst, ap, IsAllowed, in_force_at}
use Rattle.book_office.specs.Levels.{lists_at}
use Rattle.book_office.proofs.Fallbacks.{still_falls}
use Rattle.book_office.proofs.memory_keepers.MemoryKeeperKeeper.unless_granted.Goals as goal

pub returns-then-grant_at : goal.returns-then-grant_at
returns-then-grant_at c = record {
  was_honest = λ honest. honest;
  falls = still_falls;
  value = λ honest o stands.
      subst (λ k. IsAllowed (in_force_at k c.args.path.now) c.args.circle.now c.args.here.now c.args.set) (c.self.view_is ∙ sym stands.0) (c.grant_at.ensures.0 c.if-grant_at.true);
  kept = λ honest o stands. stands;
  left = λ honest x may. may;
  counted = refl;
}

pub returns : goal.returns
returns c = record {
  was_honest = λ honest. honest;
  falls = still_falls;
  value = λ honest o stands.
      let same = c.self.view_is ∙ sym stands.0 in (
        λ granted. absurd (
            let allowed = subst (λ k. IsAllowed (in_force_at k c.args.path.now) c.args.circle.now c.args.here.now c.args.set) (sym same) granted in
            let e = sym c.if-grant_at.false ∙ c.grant_at.ensures.1 allowed in
            cc
            ),
        c.in_ok-lists.ensures ∙ ap (λ k. lists_at k c.args.path.now) same,
      );
  kept = λ honest o stands. stands;
  left = λ honest x may. may;
  counted = refl;
}
