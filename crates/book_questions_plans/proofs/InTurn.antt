-- An Office is copied, the copy adopts a policy, and the two are compared.
use Rattle.std.proofs.Common.{◌≡◌, ◌∙◌, refl, sym, subst, arith, inl, inr}
use Rattle.std.specs.Prelude.{Result, Ok, Err, IfOk}
use Rattle.book_machine.specs.Promises.{AdoptPromise}
use Rattle.book_machine.specs.declared.adoptions.Adopted.{Adopted}
use Rattle.book_machine.specs.declared.adoptions.AdoptFault.TheVariants as adopting
use Rattle.book_office.specs.Keeping.{Reads, Standing, failures_after, in_memory}
use Rattle.book_office.specs.Sound.{IsSound}
use Rattle.book_office.specs.declared.keepers.StoreFault.{StoreFault}
use Rattle.book_office.specs.declared.keepers.StoreFault.TheVariants as store
use Rattle.book_office_adopting.specs.Adopting.{adopt}
use Rattle.book_office_values.specs.declared.offices.Office.{Office}
use Rattle.book_policy_values.specs.declared.parts.PolicyTables.{PolicyTables}
use Rattle.book_questions_differs.specs.Comparing.{Compares, IsCounted}
use Rattle.book_questions_plans.specs.Planning.{IsPlan, IsPlanTo, Plans}
use Rattle.book_questions_plans.specs.declared.faults.PlanFault.TheVariants.{Full}
use Rattle.book_questions_plans.specs.declared.planning.Planned.{Planned}
use Rattle.book_office.proofs.Fallbacks.{then_falls}

module _ (old new : Standing) (t : PolicyTables) where
  module _ (copied before after : Office) (same : before ≡ copied) (reads : Reads old new (Ok copied) (λ o x. x ≡ o)) where
    -- the copy is the Office, and a keeper in memory stands for it
    is_it : new.honest → (o : Office) → old.stands o → before ≡ o
    is_it honest o stands = same ∙ reads.value honest o stands

    stands_in_memory : new.honest → (o : Office) → old.stands o → (in_memory before).stands o
    stands_in_memory honest o stands = (sym (is_it honest o stands), old.sound o stands)

    -- it adopted the policy
    pub adopted_it : (a : Adopted) → AdoptPromise (in_memory before) (in_memory after) t (Ok a)
        → Plans old new t (Ok after) (λ o x. (x ≡ adopt t o) × IsSound x)
    adopted_it a promise = record {
      was_honest = reads.was_honest;
      falls = reads.falls;
      told = λ honest o stands.
          let made = promise.adopted tt o (stands_in_memory honest o stands) in
          let is : after ≡ adopt t o = sym made.1.0 ∙ made.2.1 in
          (made.2.0, (is, subst IsSound (sym is) made.2.0.0));
      kept = reads.kept;
      left = reads.left;
      counted = reads.counted;
    }

    -- it would pass a limit
    pub found_full : {A : Type 0} (Tells : Office → A → Type 0) → AdoptPromise (in_memory before) (in_memory after) t (Err adopting.Full)
        → Plans {A = A} old new t (Err Full) Tells
    found_full Tells promise = record {
      was_honest = reads.was_honest;
      falls = reads.falls;
      told = λ honest o stands. (promise.adopted tt o (stands_in_memory honest o stands)).2.0;
      kept = reads.kept;
      left = reads.left;
      counted = reads.counted;
    }

-- a keeper in memory never fails
counted_once : {A : Type 0} (old new : Standing) (before after : Office) (result : Result A StoreFault)
    → IsCounted old new (in_memory before) (in_memory after) result → new.failures ≡ failures_after result old.failures
counted_once old new before after result (inl first) = first.0
counted_once old new before after (Ok x) (inr last) = last.0
counted_once old new before after (Err store.Memory) (inr last) = last.0
counted_once old new before after (Err store.Store) (inr last) = let one : 0 ≡ 1 = last.1 in absurd (omega (arith, one))

-- what was compared with a keeper in memory
pub compared_with : {A : Type 0} (old new : Standing) (before after : Office) (result : Result A StoreFault) (Tells : Office → Office → A → Type 0)
    → Compares old new (in_memory before) (in_memory after) result Tells → Reads old new result (λ o x. IsSound before → Tells o before x)
compared_with {A} old new before after result Tells compares = record {
  was_honest = compares.first_kept.was_honest;
  falls = compares.first_kept.falls;
  value = λ honest. told result (compares.value honest tt);
  kept = compares.first_kept.kept;
  left = compares.first_kept.left;
  counted = counted_once old new before after result compares.counted;
}
  where
    told : (r : Result A StoreFault) → IfOk r (λ x. (o p : Office) → old.stands o → (in_memory before).stands p → Tells o p x)
        → IfOk r (λ x. (o : Office) → old.stands o → IsSound before → Tells o before x)
    told (Ok x) f = λ o stands sound. f o before stands (refl, sound)
    told (Err fault) f = tt

module _ (old mid new : Standing) (t : PolicyTables) where
  -- it adopted it in memory, and was compared with what came of it
  pub planned : (after : Office) (x : Planned) → Plans old mid t (Ok after) (λ o p. (p ≡ adopt t o) × IsSound p)
      → Reads mid new (Ok x) (λ o told. IsSound after → IsPlanTo o t after told) → Plans old new t (Ok x) (λ o told. IsPlan o t told)
  planned after x plans reads = record {
    was_honest = λ honest. plans.was_honest (reads.was_honest honest);
    falls = then_falls plans.falls reads.falls;
    told = λ honest o stands.
        let before = plans.told (reads.was_honest honest) o stands in
        let now = reads.value honest o (plans.kept (reads.was_honest honest) o stands) before.1.1 in
        (before.0, subst (λ (p : Office). IsPlanTo o t p x) before.1.0 now);
    kept = λ honest o stands. reads.kept honest o (plans.kept (reads.was_honest honest) o stands);
    left = λ honest l is. plans.left (reads.was_honest honest) l (reads.left honest l is);
    counted = reads.counted ∙ plans.counted;
  }
