-- What a sound policy leaves open.
use Rattle.std.specs.Prelude.{◌≡◌, ◌++◌, List, map, All}
use Rattle.book_policy_values.specs.declared.parts.PolicyTables.{PolicyTables}
use Rattle.book_office.specs.Edits.{empty_office}
use Rattle.book_office_adopting.specs.Adopting.{adopt}
use Rattle.book_office_values.specs.declared.offices.Office.{Office}
use Rattle.book_policy_gaps.specs.Finding.{AreGaps}
use Rattle.book_policy_gaps.specs.declared.gaps.Gap.{Gap}
use Rattle.book_policy_idle.specs.Told.{AreIdle}
use Rattle.book_policy_idle.specs.declared.idle.IdleEntry.{IdleEntry}
use Rattle.book_policy_openings.specs.Gains.{IsGainIn}
use Rattle.book_policy_openings.specs.Openings.{IsOpeningIn}
use Rattle.book_policy_openings.specs.declared.gains.Gain.{Gain}
use Rattle.book_policy_openings.specs.declared.openings.Opening.{Opening}
use Rattle.book_policy_warnings.specs.declared.warnings.Warning.{Warning}
use Rattle.book_policy_warnings.specs.declared.warnings.Warning.TheVariants.{NeverDecides, LeavesOpen, Opens, Gets}

abbrev pub idle_warnings : List IdleEntry → List Warning
idle_warnings idle = map (λ entry. NeverDecides entry) idle

abbrev pub gap_warnings : List Gap → List Warning
gap_warnings gaps = map (λ gap. LeavesOpen gap) gaps

abbrev pub opening_warnings : List Opening → List Warning
opening_warnings openings = map (λ opening. Opens opening) openings

abbrev pub gain_warnings : List Gain → List Warning
gain_warnings gains = map (λ gain. Gets gain) gains

-- what is told of a policy that an Office has adopted: exactly the entries that change no decision, in order, and why; exactly the plain
-- facts of the Office; and then openings and gains, of which each is one
pub record AreWarningsIn (t : PolicyTables) (o : Office) (warnings : List Warning) : Type 0 where
  pub idle : List IdleEntry
  pub gaps : List Gap
  pub openings : List Opening
  pub gains : List Gain
  pub are_idle : AreIdle t idle
  pub are_gaps : AreGaps o gaps
  pub are_openings : All (IsOpeningIn o) openings
  pub are_gains : All (IsGainIn o) gains
  pub told : warnings ≡ idle_warnings idle ++ (gap_warnings gaps ++ (opening_warnings openings ++ gain_warnings gains))

-- of the Office that the policy makes of another
abbrev pub AreWarningsOver : PolicyTables → Office → List Warning → Type 0
AreWarningsOver t start = AreWarningsIn t (adopt t start)

-- of the policy alone: of the Office that it makes of an empty one
abbrev pub AreWarningsOf : PolicyTables → List Warning → Type 0
AreWarningsOf t = AreWarningsOver t empty_office
