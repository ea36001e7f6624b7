-- The first line of what `explain` answers is the decision that `why` tells.
use Rattle.book_questions_asked.proofs.Common.{◌≡◌, ◌++◌, ◌∷◌, ◌∙◌, [], ℕ, Bool, List, Option, Some, None, ap, codes, refl, subst, sym, CircleOf, Leaf, Office, Asked}
use Rattle.std.proofs.Common.{◌↔◌, decimal}
use Rattle.book_rights.specs.Privileges.{denied_name, name_of}
use Rattle.book_lists.proofs.OneLeaf.{denied_not_allowed}
use Rattle.book_lists.proofs.OneOutcome.{one_circle, one_outcome}
use Rattle.book_lists.specs.Decisions.{IfDenied, IsAllowed, IsDenial}
use Rattle.book_lists.specs.declared.decisions.Outcome.{Outcome}
use Rattle.book_lists.specs.declared.decisions.Outcome.TheVariants.{Allowed, Denied}
use Rattle.book_lists.specs.declared.entries.Here.{Here}
use Rattle.book_lists_explain.specs.Answers.{names_text, outcome_text}
use Rattle.book_lists_explain.specs.ShortNames.{short_list}
use Rattle.book_office.specs.Levels.{effective_at}
use Rattle.book_office.specs.declared.nodes.EffectiveEntry.{EffectiveEntry}
use Rattle.book_office_listings.specs.Scanning.{IsVerdict}
use Rattle.book_office_listings.specs.Verdicts.{IsDeniedBy, bare_entries, deciding_entry, here_of, paths_of}
use Rattle.book_office_listings.specs.declared.messages.Denial.{Denial}
use Rattle.book_office_values.specs.declared.paths.Path.{Path}
use Rattle.book_questions.proofs.RuledVerdicts.{numbered, rulings_tell}
use Rattle.book_questions.specs.RulingVerdicts.{denial_of}
use Rattle.book_questions.specs.Whys.{AreWhys, IsWhy, denial_at, first_denial, or_else}
use Rattle.book_questions.specs.declared.whys.Why.{Why}
use Rattle.book_questions.specs.declared.whys.WhyNeed.{WhyNeed}
use Rattle.book_questions_asked.specs.Laws.{ExplainTellsWhy, IsDecision, IsFirstLine, decision_text, entry_text}
use Rattle.book_questions_asked.proofs.Askers.{asked_of_needed, need_of}
use Rattle.book_questions_asked.proofs.Explained.{explained}

module _ (list : List EffectiveEntry) (circle : CircleOf) (here : Here) (p : Path) (set : Leaf → Bool) where
  -- a denial has the words of its outcome
  same_text : (denial : Denial) (d : IsDeniedBy list circle here p set denial) → outcome_text set (Denied d.leaf d.index) ≡ decision_text (Some denial)
  same_text denial d = go d.index d.entry d.decided
    where
      go : (index : Option ℕ) → denial.entry ≡ deciding_entry (paths_of list) index → IsDenial (bare_entries list) circle here set d.leaf index
          → outcome_text set (Denied d.leaf index) ≡ decision_text (Some denial)
      go None e decided = λ i. codes "denied " ++ (name_of (sym d.privilege i) ++ entry_text (sym e i))
      go (Some k) e decided =
          let n = numbered list circle here k d.leaf decided.1.0 decided.1.1 in
          let entry : denial.entry ≡ Some n.0 = e ∙ n.1 in
          ap (λ m. codes "denied " ++ (name_of (denied_name d.leaf set) ++ (codes " by " ++ decimal m))) (sym n.2)
          ∙ (λ i. codes "denied " ++ (name_of (sym d.privilege i) ++ entry_text (sym entry i)))

  -- the outcome of a verdict has its words
  verdict_text : (verdict : Option Denial) → IsVerdict list circle here p set verdict → (outcome : Outcome)
      → (outcome ≡ Allowed) ↔ IsAllowed (bare_entries list) circle here set → IfDenied outcome (IsDenial (bare_entries list) circle here set)
      → outcome_text set outcome ≡ decision_text verdict
  verdict_text None granted outcome allowed denied = ap (outcome_text set) (allowed.1 granted)
  verdict_text (Some denial) d outcome allowed denied =
      let never : (Denied d.leaf d.index ≡ Allowed) ↔ IsAllowed (bare_entries list) circle here set =
      (λ e. absurd cc, λ a. absurd (denied_not_allowed (bare_entries list) circle here set d.leaf d.index d.decided a)) in
      let same : outcome ≡ Denied d.leaf d.index = one_outcome (bare_entries list) circle here set outcome (Denied d.leaf d.index) allowed denied never d.decided in
      ap (outcome_text set) same ∙ same_text denial d

alone : (found : Option Denial) → or_else found None ≡ found
alone None = refl
alone (Some denial) = refl

module _ (o : Office) (asked : Asked) (set : Leaf → Bool) (answer : List ℕ) (decision : IsDecision o asked set answer) where
  abbrev list : List EffectiveEntry
  list = effective_at o asked.at

  of_need : (circle : CircleOf) → decision.circle ≡ circle → (whys : List WhyNeed) → AreWhys o circle (record { resource = asked.at; set = set } ∷ []) whys
      → outcome_text set decision.outcome ≡ decision_text (first_denial whys)
  of_need circle same [] all = absurd all
  of_need circle same (x ∷ y ∷ ys) all = absurd all.1
  of_need circle same (x ∷ []) all =
      let is = all.0 in
      let here = here_of o asked.at in
      let verdict : IsVerdict list circle here asked.at set (denial_at x) =
      subst (λ q. IsVerdict list circle here asked.at set (denial_of q x.set x.rulings)) (sym is.resource)
      (subst (λ s. IsVerdict list circle here asked.at set (denial_of asked.at s x.rulings)) (sym is.set) (rulings_tell list circle here asked.at set x.rulings is.rulings)) in
      verdict_text list circle here asked.at set (denial_at x) verdict decision.outcome
      (subst (λ c. (decision.outcome ≡ Allowed) ↔ IsAllowed (bare_entries list) c here set) same decision.allowed)
      (subst (λ c. IfDenied decision.outcome (IsDenial (bare_entries list) c here set)) same decision.denied)
      ∙ ap decision_text (sym (alone (denial_at x)))

  first_line : (why : Why) → IsWhy o (need_of asked set) why → IsFirstLine (decision_text (first_denial why.needs)) answer
  first_line why w =
      let same = one_circle o.pairs asked.caller decision.circle w.circle decision.expanded w.is_circle in
      let rest : List ℕ = codes "granted: " ++ (names_text (short_list decision.granted) ++ 10 ∷ []) in
      (rest, decision.told ∙ ap (λ line. line ++ 10 ∷ rest) (of_need w.circle same why.needs w.needs))

pub told_why : ExplainTellsWhy
told_why o name p set needed why text answer sound at w told answers =
    let asked = asked_of_needed o name p set needed at in
    let decision = (explained o name p set asked.0 text answer sound asked.1 told).0 answers in
    first_line o asked.0 set answer decision why (subst (λ n. IsWhy o n why) (sym asked.2) w)
