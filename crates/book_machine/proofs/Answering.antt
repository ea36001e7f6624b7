-- A request is answered by its plan, and then by the edit of it.
use Rattle.book_machine.proofs.Common.{◌≡◌, ◌⊎◌, inl, inr, ℕ, List, Option, Some, None, Ok, Err, refl, sym, ap, ◌∙◌, Edit, Office, apply, Standing, one_more, Fits, Request, Plan, Refusal, Unavailable, Asks, MeetsPlan, IsWellFormed, ServePromise, refused, apply_any, settled}
use Rattle.book_office.specs.declared.keepers.StoreFault.{StoreFault}
use Rattle.book_office.specs.declared.keepers.StoreFault.TheVariants.{Memory, Store}
use Rattle.book_office.specs.Keeping.{Edits, whole, failures_after_fault}
use Rattle.book_machine.proofs.FittingPlans.{plan_fits}
use Rattle.book_machine.proofs.OnePlan.{one_plan}
use Rattle.book_machine.specs.Asking.{IsPlanned}
use Rattle.book_office.proofs.Fallbacks.{then_falls}

-- an edit that the keeper gave up failed once, or not at all
pub failed_once : (fault : StoreFault) (before after : ℕ) → after ≡ failures_after_fault fault before → (after ≡ before) ⊎ (after ≡ one_more before)
failed_once Memory before after is = inl is
failed_once Store before after is = inr is

module _ (old new : Standing) (name : Option (List ℕ)) (request : Request) where
  -- the plan was refused
  pub answers_refusal : (refusal : Refusal) → Asks old new (Err refusal) (λ o r. MeetsPlan o name request r) → ServePromise old new name request (refused refusal)
  answers_refusal refusal asked = record {
    was_honest = asked.was_honest;
    falls = asked.falls;
    served = λ h o stands. (
      o,
      asked.kept h o stands,
      elim (asked.tells h o stands) [
        | inl unavailable ↦ inr (ap refused unavailable, refl)
        | inr is ↦ inl (Err refusal, is, refl)
      ],
    );
    left = λ h o stands x left. (
      inl (asked.left h x left),
      λ served edit planned. elim (asked.tells h o stands) [
        | inl unavailable ↦ absurd (served (ap refused unavailable))
        | inr is ↦ let same = one_plan o request name (Err refusal) (Ok planned.0) is planned.1 in absurd (cc (same))
      ],
    );
    counted = elim asked.counted [ inl same ↦ inl same | inr failed ↦ inr (ap refused failed.0, failed.1) ];
  }

  -- the plan has no edit
  pub answers_read : (p : Plan) → Asks old new (Ok p) (λ o r. MeetsPlan o name request r) → p.edit ≡ None → ServePromise old new name request p.reply
  answers_read p asked no_edit = record {
    was_honest = asked.was_honest;
    falls = asked.falls;
    served = λ h o stands. (o, asked.kept h o stands, inl (Ok p, asked.tells h o stands, ap (λ e. (p.reply, apply_any o e)) (sym no_edit)));
    left = λ h o stands x left. (
      inl (asked.left h x left),
      λ served edit planned.
          let same = one_plan o request name (Ok p) (Ok planned.0) (asked.tells h o stands) planned.1 in
          let plans : p ≡ planned.0 = cc (same) in
          let none : None ≡ Some edit = sym no_edit ∙ ap (λ (q : Plan). q.edit) plans ∙ planned.2 in
          absurd (cc (none)),
    );
    counted = inl asked.counted;
  }

  module _ (mid : Standing) (p : Plan) (edit : Edit) (named : IsWellFormed request) (asked : Asks old mid (Ok p) (λ o r. MeetsPlan o name request r)) (has_edit : p.edit ≡ Some edit) where
    stepped : (o : Office) → (p.reply, apply o edit) ≡ settled o (Ok p)
    stepped o = ap (λ e. (p.reply, apply_any o e)) (sym has_edit)

    fits : mid.honest → (o : Office) → old.stands o → Fits o edit
    fits was o stands = plan_fits o request name p edit (old.sound o stands) named (asked.tells was o stands) has_edit

    is_planned : mid.honest → (o : Office) → old.stands o → IsPlanned o name request edit
    is_planned was o stands = (p, asked.tells was o stands, has_edit)

    -- the edit was made
    pub answers_edit : (u : Unit {0}) → Edits mid new (Ok u) edit → ServePromise old new name request p.reply
    answers_edit u edits = record {
      was_honest = λ h. asked.was_honest (edits.was_honest h);
      falls = then_falls asked.falls edits.falls;
      served = λ h o stands.
          let was = edits.was_honest h in
          (apply o edit, edits.made h o (asked.kept was o stands) (fits was o stands), inl (Ok p, asked.tells was o stands, stepped o));
      left = λ h o stands x left.
          let was = edits.was_honest h in
          let made = edits.left_made h o (asked.kept was o stands) (fits was o stands) x left in (
            inr (edit, is_planned was o stands, made),
            λ served other planned.
                let same = one_plan o request name (Ok p) (Ok planned.0) (asked.tells was o stands) planned.1 in
                let plans : p ≡ planned.0 = cc (same) in
                let edits_same : Some edit ≡ Some other = sym has_edit ∙ ap (λ (q : Plan). q.edit) plans ∙ planned.2 in
                made ∙ ap (λ e. whole (apply o e)) (cc (edits_same)),
          );
      counted = inl (edits.counted ∙ asked.counted);
    }

    -- the keeper gave up
    pub answers_fault : (fault : StoreFault) → Edits mid new (Err fault) edit → ServePromise old new name request (refused Unavailable)
    answers_fault fault edits = record {
      was_honest = λ h. asked.was_honest (edits.was_honest h);
      falls = then_falls asked.falls edits.falls;
      served = λ h o stands. (o, edits.kept h o (asked.kept (edits.was_honest h) o stands), inr (refl, refl));
      left = λ h o stands x left.
          let was = edits.was_honest h in (
            elim (edits.left_kept h o (asked.kept was o stands) (fits was o stands) x left) [
              | inl before ↦ inl (asked.left was x before)
              | inr made ↦ inr (edit, is_planned was o stands, made)
            ],
            λ served. absurd (served refl),
          );
      counted = elim (failed_once fault mid.failures new.failures edits.counted) [
        | inl same ↦ inl (same ∙ asked.counted)
        | inr failed ↦ inr (refl, failed ∙ ap one_more asked.counted)
      ];
    }
