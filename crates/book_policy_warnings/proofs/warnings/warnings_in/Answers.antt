use Rattle.std.proofs.Common.{◌++◌, ◌∙◌, List, ap, sym, subst}
use Rattle.std.specs.Prelude.{All}
use Rattle.book_office.specs.Sound.{IsSound}
use Rattle.book_office_values.specs.declared.offices.Office.{Office}
use Rattle.book_policy_openings.specs.Gains.{IsGainIn}
use Rattle.book_policy_openings.specs.Openings.{IsOpeningIn}
use Rattle.book_policy_warnings.specs.Warnings.{gain_warnings, gap_warnings, idle_warnings, opening_warnings}
use Rattle.book_policy_warnings.proofs.FirstLines.{four_parts}
use Rattle.book_policy_warnings.specs.declared.warnings.Warning.{Warning}
use Rattle.book_policy_warnings.proofs.warnings.warnings_in.Goals as goal

pub returns : goal.returns
returns c = λ sound.
    let o = c.args.keeper.now in
    let same = c.in_ok-gaps.ensures.kept sound in
    let idle = c.in_ok-idle.idle in
    let gaps = c.in_ok-gaps.gaps in
    let openings = c.in_ok-openings.openings in
    let gains = c.in_ok-gains.gains in
    let then = c.in_ok-openings.ensures.kept (subst IsSound (sym same) sound) ∙ same in
    let first = c.in_ok-add_idle.ensures ∙ ap (λ (l : List Warning). l ++ idle_warnings idle) c.new-warnings.ensures in
    let second = c.in_ok-add_gaps.ensures ∙ ap (λ (l : List Warning). l ++ gap_warnings gaps) first in
    let third = c.in_ok-add_openings.ensures ∙ ap (λ (l : List Warning). l ++ opening_warnings openings) second in
    record {
      idle = idle;
      gaps = gaps;
      openings = openings;
      gains = gains;
      are_idle = c.in_ok-idle.ensures;
      are_gaps = c.in_ok-gaps.ensures.gaps sound;
      are_openings = subst (λ (k : Office). All (IsOpeningIn k) openings) same (c.in_ok-openings.ensures.told (subst IsSound (sym same) sound));
      are_gains = subst (λ (k : Office). All (IsGainIn k) gains) then (c.in_ok-gains.ensures.told (subst IsSound (sym then) sound));
      told =
          c.in_ok-add_gains.ensures
          ∙ ap (λ (l : List Warning). l ++ gain_warnings gains) third
          ∙ four_parts (idle_warnings idle) (gap_warnings gaps) (opening_warnings openings) (gain_warnings gains);
    }
