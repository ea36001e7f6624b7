use Rattle.std.proofs.Common.{sym, subst, ◌∙◌}
use Rattle.std.specs.Prelude.{All}
use Rattle.std.proofs.lemmas.List.Elements.{All-nil}
use Rattle.book_office.specs.Sound.{IsSound}
use Rattle.book_office_values.specs.declared.offices.Office.{Office}
use Rattle.book_policy_openings.specs.Gains.{AddsGains, IsGainIn}
use Rattle.book_policy_openings.proofs.gain_search.gains_in.Goals as goal

pub loop-gain-init : goal.loop-gain-init
loop-gain-init c = record {
  told = λ sound. subst (All (IsGainIn c.args.start.now)) (sym c.new-told.ensures) (All-nil (IsGainIn c.args.start.now));
  kept = c.in_ok-found.ensures;
}

pub loop-gain-preserved : goal.loop-gain-preserved
loop-gain-preserved c = record {
  told = λ sound.
      let same = c.loop-gain.invariant.kept sound in
      let adds = c.in_ok-add_served.ensures.added (subst IsSound (sym same) sound) in
      subst (λ (o : Office). AddsGains o c.loop-gain.told c.add_served.new.told) same adds (c.loop-gain.invariant.told sound);
  kept = λ sound.
      let same = c.loop-gain.invariant.kept sound in
      c.in_ok-add_served.ensures.kept (subst IsSound (sym same) sound) ∙ same;
}
