use Rattle.std.proofs.Common.{sym, subst, ◌∙◌}
use Rattle.std.specs.Prelude.{All}
use Rattle.std.proofs.lemmas.List.Elements.{All-nil}
use Rattle.book_office.specs.Sound.{IsSound}
use Rattle.book_office_values.specs.declared.offices.Office.{Office}
use Rattle.book_policy_openings.specs.Openings.{AddsOpenings, IsOpeningIn}
use Rattle.book_policy_openings.proofs.searching.openings_in.Goals as goal

pub loop-opening-init : goal.loop-opening-init
loop-opening-init c = record {
  told = λ sound. subst (All (IsOpeningIn c.args.start.now)) (sym c.new-told.ensures) (All-nil (IsOpeningIn c.args.start.now));
  kept = c.in_ok-found.ensures;
}

pub loop-opening-preserved : goal.loop-opening-preserved
loop-opening-preserved c = record {
  told = λ sound.
      let same = c.loop-opening.invariant.kept sound in
      let adds = c.in_ok-add_served.ensures.added (subst IsSound (sym same) sound) in
      subst (λ (o : Office). AddsOpenings o c.loop-opening.told c.add_served.new.told) same adds (c.loop-opening.invariant.told sound);
  kept = λ sound.
      let same = c.loop-opening.invariant.kept sound in
      c.in_ok-add_served.ensures.kept (subst IsSound (sym same) sound) ∙ same;
}
