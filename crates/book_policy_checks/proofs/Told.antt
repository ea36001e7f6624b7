-- What is told of a table is a report of its text.
use Rattle.std.proofs.Common.{◌≡◌, ◌⊎◌, ◌≤◌, ℕ, List, [], ◌∷◌, length, take, true, IfOk, Result, Ok, Err, Some, None, inl, inr, refl, sym, subst, ap, ◌∙◌, ◌==◌, arith}
use Rattle.std.proofs.lemmas.Bool.{eqb-true}
use Rattle.toml.specs.Data.{Members}
use Rattle.toml.specs.Parse.{parse_document}
use Rattle.book_limits.specs.declared.TheConstants.{MAX_POLICY_BYTES}
use Rattle.book_policy.specs.Rules.{IsFaultOf, IsPolicyOf, number}
use Rattle.book_policy.specs.declared.faults.PolicyFault.{PolicyFault}
use Rattle.book_policy.specs.declared.faults.PolicyFault.TheVariants.{NotToml}
use Rattle.book_policy.proofs.Agreed.{fault_is, none_policy, policy_none}
use Rattle.book_policy.proofs.Least.{not_toml}
use Rattle.book_policy.proofs.RulesDecided.{policy_or_fault}
use Rattle.book_policy.proofs.Whole.{one_fault, policy_no_fault, text_fault}
use Rattle.book_policy_values.specs.declared.parts.PolicyTables.{PolicyTables}
use Rattle.book_policy_faults.specs.Laws.{least_of}
use Rattle.book_policy_faults.specs.Placing.{has_none, no_faults, noted}
use Rattle.book_policy_faults.specs.Tables.{faults_in}
use Rattle.book_policy_faults.specs.declared.places.PlacedFault.{PlacedFault}
use Rattle.book_policy_faults.specs.declared.places.TheConstants.{MAX_TOLD}
use Rattle.book_policy_faults.proofs.Told.{told_first}
use Rattle.book_policy_checks.specs.Laws.{ReportsAgree}
use Rattle.book_policy_checks.specs.Reports.{IsReportOf, IsTold}
use Rattle.book_policy_checks.specs.declared.reports.Report.{Report}
use Rattle.book_policy_checks.specs.declared.reports.Report.TheVariants as report

told_of_table : (text : List ℕ) (ms : Members) → length text ≤ MAX_POLICY_BYTES → parse_document text ≡ Some ms → (r : Report) → IsTold ms r → IsReportOf text r
told_of_table text ms short is report.Sound none = none_policy text ms is short none
told_of_table text ms short is report.TooLong h = absurd h
told_of_table text ms short is (report.NotToml place) h = absurd h
told_of_table text ms short is (report.Faults table told) h = by_fault (policy_or_fault text)
  where
    by_fault : ((policy : PolicyTables) × IsPolicyOf text policy) ⊎ ((fault : PolicyFault) × IsFaultOf text fault) → IsReportOf text (report.Faults table told)
    by_fault (inl p) = absurd (h.2 (policy_none text ms is p.0 p.1))
    by_fault (inr it) = (
      short,
      is ∙ ap Some (sym h.0),
      h.1 ∙ ap (λ (t : Members). noted no_faults (faults_in t)) (sym h.0),
      (it.0, it.1, fault_is text ms is short it.0 it.1 ∙ ap least_of (sym h.1)),
    )

pub told_report : {E : Type 0} (text : List ℕ) (ms : Members) (r : Result Report E) → length text ≤ MAX_POLICY_BYTES → parse_document text ≡ Some ms
    → IfOk r (IsTold ms) → IfOk r (IsReportOf text)
told_report text ms (Ok report) short is h = told_of_table text ms short is report h
told_report text ms (Err e) short is h = tt

pub not_toml_report : (text : List ℕ) → length text ≤ MAX_POLICY_BYTES → parse_document text ≡ None → IsFaultOf text NotToml
not_toml_report text short none = text_fault text NotToml short (not_toml text none)

-- where none of all is told, there are none
pub none_told : (fs : List PlacedFault) → has_none (noted no_faults fs) ≡ true → fs ≡ []
none_told [] none = refl
none_told (f ∷ fs) none =
    let zero : length (take MAX_TOLD (f ∷ fs)) ≡ 0 = eqb-true (length (take MAX_TOLD (f ∷ fs))) 0 (subst (λ (xs : List PlacedFault). (length xs == 0) ≡ true) (told_first (f ∷ fs)) none) in
    absurd (omega (arith, zero))

pub reports_agree : ReportsAgree
reports_agree text report.Sound is fault f = policy_no_fault text is.0 fault is.1 f
reports_agree text report.TooLong is fault f = f.long is
reports_agree text (report.NotToml place) is fault f = one_fault text fault NotToml f is
reports_agree text (report.Faults table told) is fault f = ap number (one_fault text fault is.3.0 f is.3.1) ∙ is.3.2
