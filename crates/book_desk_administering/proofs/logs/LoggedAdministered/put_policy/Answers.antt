use Rattle.std.proofs.Common.{ℕ, List, inl, inr, subst}
use Rattle.std.proofs.KnownBytes.{Keeps-refl}
use Rattle.book_log_service.specs.Kept.{serving_of}
use Rattle.book_wire_serving.proofs.Servings.{runs_none, stays}
use Rattle.book_wire_steps.proofs.Takes.{only_adopts, only_none}
use Rattle.book_desk_app.specs.Policies.{SpellsPolicy}
use Rattle.book_desk_administering.proofs.logs.LoggedAdministered.put_policy.Goals as goal

pub returns-in-Some-clause-puts : goal.returns-in-Some-clause-puts
returns-in-Some-clause-puts g c =
    let spells = subst (λ (bytes : List ℕ). SpellsPolicy bytes c.in-Some.policy) c.as_slice.ensures.value c.in-Some.ensures in
    inl (c.in-Some.policy, spells, c.adopt_noted-outcome.result, c.adopt_noted-outcome.ensures, c.tell_adoption.ensures)

pub returns-in-Some-clause-only : goal.returns-in-Some-clause-only
returns-in-Some-clause-only g c =
    only_adopts (serving_of g.K.Keeper.standing g.W.Write.contents) c.args.self.now c.adopt_noted-outcome.new.logged c.in-Some.policy c.adopt_noted-outcome.result
    c.adopt_noted-outcome.ensures

pub returns-in-None-clause-puts : goal.returns-in-None-clause-puts
returns-in-None-clause-puts g c = inr (inl (c.tell_no_policy.ensures, Keeps-refl _, runs_none _ _ (stays _)))

pub returns-in-None-clause-only : goal.returns-in-None-clause-only
returns-in-None-clause-only g c = only_none (serving_of g.K.Keeper.standing g.W.Write.contents) c.args.self.now
