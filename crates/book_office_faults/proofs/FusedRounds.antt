-- A round behind a fuse is the keeper's.
use Rattle.std.proofs.Common.{◌≡◌, ◌⊎◌, inl, inr, ℕ, Result, Ok, Err, ap, refl, subst, sym, arith}
use Rattle.std.proofs.lemmas.Bool.{false≢true}
use Rattle.book_office.specs.Keeping.{Standing, failures_after, one_more}
use Rattle.book_office.specs.Rounds.{IsRound}
use Rattle.book_office.proofs.Fallbacks.{still_falls}
use Rattle.book_office.specs.declared.keepers.StoreFault.{StoreFault}
use Rattle.book_office.specs.declared.keepers.StoreFault.TheVariants.{Store}
use Rattle.book_office_faults.specs.Fuses.{IsWorkBehind, behind, behind_in, together}
use Rattle.book_office_faults.specs.declared.rounds.FusedWork.{FusedWork}
use Rattle.book_office_faults.proofs.FusedEdits.{counted_together}

one_more_together : (kept after failures : ℕ) → after ≡ one_more kept → together after failures ≡ one_more (together kept failures)
one_more_together kept after failures is = grind arith

-- the fuse answers, and nothing is done
pub not_passed : {K I W : Type 0} (standing : K → Standing) (inside : I → Standing) (does : Standing → Standing → W → W → Type 0) (before after : K) (failures more : ℕ) (w : W)
    (r : Result (Unit {0}) StoreFault) → r ≡ Err Store → after ≡ before → ((kept : ℕ) → together kept more ≡ one_more (together kept failures))
    → IsRound inside does (behind (standing before) failures) (behind (standing after) more) w w r
not_passed {K} {I} {W} standing inside does before after failures more w r fault same counted =
    let P : Result (Unit {0}) StoreFault → Type 0 = λ q. IsRound inside does (behind (standing before) failures) (behind (standing after) more) w w q in
    let Q : K → Type 0 = λ k. IsRound inside does (behind (standing before) failures) (behind (standing k) more) w w (Err Store) in
    subst P (sym fault)
    (subst Q (sym same) (record {
      was_honest = λ h. h;
      falls = still_falls;
      kept = λ h o stands. stands;
      done = inr (record {
        refused = refl;
        same = refl;
        left = λ h x left. left;
        counted = counted (standing before).failures;
      });
    }))

module _ {I W : Type 0} (inside : I → Standing) (does : Standing → Standing → W → W → Type 0) (old new : Standing) (before after : FusedWork W) where
  pub round_passed : (r : Result (Unit {0}) StoreFault) → IsRound inside (IsWorkBehind does) old new before after r
      → IsRound (behind_in inside) does (behind old before.failures) (behind new after.failures) before.work.now after.work.now r
  round_passed (Ok u) round = record {
    was_honest = round.was_honest;
    falls = round.falls;
    kept = λ h. tt;
    done = elim round.done [
      | inl d ↦ inl (record {
        first = (d.first, d.done.name, before.failures);
        last = (d.last, d.done.name, after.failures);
        done = d.done.done;
        begins = d.begins;
        begins_left = d.begins_left;
        begins_counted = ap (λ n. together n before.failures) d.begins_counted;
        honest = d.honest;
        made = d.made;
        left_made = d.left_made;
        left_kept = λ h. tt;
        counted = ap (λ n. together n after.failures) d.counted;
        counted_once = tt;
      })
      | inr n ↦ absurd (false≢true n.refused)
    ];
  }
  round_passed (Err fault) round = record {
    was_honest = round.was_honest;
    falls = round.falls;
    kept = round.kept;
    done = elim round.done [
      | inl d ↦ inl (record {
        first = (d.first, d.done.name, before.failures);
        last = (d.last, d.done.name, after.failures);
        done = d.done.done;
        begins = d.begins;
        begins_left = d.begins_left;
        begins_counted = ap (λ n. together n before.failures) d.begins_counted;
        honest = λ h. tt;
        made = λ h. tt;
        left_made = λ h. tt;
        left_kept = d.left_kept;
        counted = tt;
        counted_once = elim d.counted_once [
          | inl same ↦ inl (ap (λ n. together n after.failures) same)
          | inr more ↦ inr (one_more_together (inside d.last).failures new.failures after.failures more)
        ];
      })
      | inr n ↦ inr (record {
        refused = n.refused;
        same = ap (λ (w : FusedWork W). w.work.now) n.same;
        left = n.left;
        counted =
            let P : FusedWork W → Type 0 = λ w. together new.failures w.failures ≡ failures_after {A = Unit {0}} (Err fault) (together old.failures before.failures) in
            subst P (sym n.same) (counted_together {A = Unit {0}} (Err fault) old.failures new.failures before.failures n.counted);
      })
    ];
  }
