use Rattle.std.proofs.Common.{ℕ, List, inl, inr, subst}
use Rattle.std.proofs.KnownBytes.{Keeps-refl}
use Rattle.book_wire_serving.proofs.Servings.{runs_none, stays}
use Rattle.book_wire_steps.proofs.Takes.{only_adopts, only_none}
use Rattle.book_desk_app.specs.Policies.{SpellsPolicy}
use Rattle.book_desk_administering.proofs.Adoptions.{adopts_bare, bare_serving}
use Rattle.book_desk_administering.proofs.machines.MachineAdministered.put_policy.Goals as goal

pub returns-in-Some-clause-puts : goal.returns-in-Some-clause-puts
returns-in-Some-clause-puts g c =
    let spells = subst (λ (bytes : List ℕ). SpellsPolicy bytes c.in-Some.policy) c.as_slice.ensures.value c.in-Some.ensures in
    inl (
      c.in-Some.policy,
      spells,
      c.adopt-outcome.result,
      adopts_bare g.K.Keeper.standing c.args.self.now c.adopt-outcome.new.self c.in-Some.policy c.adopt-outcome.result c.adopt-outcome.ensures,
      c.tell_adoption.ensures,
    )

pub returns-in-Some-clause-only : goal.returns-in-Some-clause-only
returns-in-Some-clause-only g c =
    only_adopts (bare_serving g.K.Keeper.standing) c.args.self.now c.adopt-outcome.new.self c.in-Some.policy c.adopt-outcome.result
    (adopts_bare g.K.Keeper.standing c.args.self.now c.adopt-outcome.new.self c.in-Some.policy c.adopt-outcome.result c.adopt-outcome.ensures)

pub returns-in-None-clause-puts : goal.returns-in-None-clause-puts
returns-in-None-clause-puts g c = inr (inl (c.tell_no_policy.ensures, Keeps-refl _, runs_none _ _ (stays _)))

pub returns-in-None-clause-only : goal.returns-in-None-clause-only
returns-in-None-clause-only g c = only_none (bare_serving g.K.Keeper.standing) c.args.self.now
