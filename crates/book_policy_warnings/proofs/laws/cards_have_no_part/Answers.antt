use Rattle.std.proofs.Common.{subst}
use Rattle.std.specs.Prelude.{All}
use Rattle.book_office.specs.Edits.{apply}
use Rattle.book_office_adopting.proofs.BareAdoption.{adopted_bare}
use Rattle.book_office_adopting.specs.Adopting.{adopt}
use Rattle.book_office_adopting.specs.TakingOver.{bare}
use Rattle.book_office_values.specs.declared.offices.Office.{Office}
use Rattle.book_policy_openings.specs.Gains.{IsGainFrom}
use Rattle.book_policy_openings.specs.Openings.{IsOpeningFrom, trial_card}
use Rattle.book_policy_openings.specs.declared.gains.Gain.{Gain}
use Rattle.book_policy_openings.specs.declared.openings.Opening.{Opening}
use Rattle.book_policy_gaps.proofs.BareGaps.{same_facts}
use Rattle.book_policy_warnings.proofs.laws.cards_have_no_part.Goals as goal

pub returns : goal.returns
returns c = λ t o warnings are. record {
  idle = are.idle;
  gaps = are.gaps;
  openings = are.openings;
  gains = are.gains;
  are_idle = are.are_idle;
  are_gaps = same_facts (adopt t (bare o)) (adopt t o) are.gaps (adopted_bare t o) are.are_gaps;
  are_openings = subst (λ (k : Office). All (λ (opening : Opening). IsOpeningFrom (apply k (trial_card opening.book)) opening) are.openings) (adopted_bare t o) are.are_openings;
  are_gains = subst (λ (k : Office). All (λ (gain : Gain). IsGainFrom k gain) are.gains) (adopted_bare t o) are.are_gains;
  told = are.told;
}
