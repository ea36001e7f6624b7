-- A round of a machine is one of its keeper.
use Rattle.std.proofs.Common.{◌≡◌, inl, inr, refl, ap, subst, Result, Ok, Err, OnOk, OnErr, Option, List, ℕ, Some, None}
use Rattle.std.specs.Borrow.{GName}
use Rattle.book_office.specs.Keeping.{Standing, lent}
use Rattle.book_office.specs.Rounds.{IsDone, IsNotBegun, IsRound}
use Rattle.book_office.specs.declared.keepers.StoreFault.{StoreFault}
use Rattle.book_wire_serving.specs.Logs.{no_log}
use Rattle.book_wire_serving.specs.Rounds.{BeginsEmpty, IsFollowed, IsMachineWork, IsServedRound, with_log}
use Rattle.book_wire_serving.specs.Serving.{Serving}
use Rattle.book_wire_serving.specs.declared.rounds.MachineWork.{MachineWork}

none_some : (bytes : List ℕ) → (◌≡◌) {A = Option (List ℕ)} None (Some bytes) → ⊥
none_some bytes e = cc

none_begins : BeginsEmpty no_log no_log
none_begins = record { begins = refl; empty = λ bytes held. absurd (none_some bytes held) }

none_follows : (result : Result (Unit {0}) StoreFault) → OnOk result (IsFollowed no_log no_log no_log)
none_follows (Ok done) = record { was_sound = λ sound. sound; follows = λ sound bytes text held. absurd (none_some bytes held) }
none_follows (Err fault) = tt

none_same : (result : Result (Unit {0}) StoreFault) → OnErr result (no_log ≡ no_log)
none_same (Ok done) = tt
none_same (Err fault) = refl

module _ {I W : Type 0} (inside : I → Standing) (does : Serving → Serving → W → W → Type 0) (old new : Standing) (before after : MachineWork W) where
  abbrev by_name : I × GName → Standing
  by_name i = lent i.1 (inside i.0)

  abbrev DoesOn : Standing → Standing → W → W → Type 0
  DoesOn s t b a = does (with_log no_log s) (with_log no_log t) b a

  done_by : (result : Result (Unit {0}) StoreFault) → IsDone inside (IsMachineWork does) old new before after result
      → IsDone by_name DoesOn old new before.work.now after.work.now result
  done_by result d = record {
    first = (d.first, d.done.name);
    last = (d.last, d.done.name);
    done = d.done.done;
    begins = d.begins;
    begins_left = d.begins_left;
    begins_counted = d.begins_counted;
    honest = d.honest;
    made = d.made;
    left_made = d.left_made;
    left_kept = d.left_kept;
    counted = d.counted;
    counted_once = d.counted_once;
  }

  not_begun_by : (result : Result (Unit {0}) StoreFault) → IsNotBegun inside (IsMachineWork does) old new before after result
      → IsNotBegun by_name DoesOn old new before.work.now after.work.now result
  not_begun_by result n = record {
    refused = n.refused;
    same = ap (λ (w : MachineWork W). w.work.now) n.same;
    left = n.left;
    counted = n.counted;
  }

  pub machine_round : (work : W) (result : Result (Unit {0}) StoreFault) → after.work.now ≡ work → IsRound inside (IsMachineWork does) old new before after result
      → IsServedRound (λ (i : I × GName). lent i.1 (inside i.0)) does (with_log no_log old) (with_log no_log new) before.work.now work result
  machine_round work result same r =
      let P : W → Type 0 = λ w. IsServedRound (λ (i : I × GName). lent i.1 (inside i.0)) does (with_log no_log old) (with_log no_log new) before.work.now w result in
      subst P same (record {
        first_log = no_log;
        last_log = no_log;
        round = record {
          was_honest = r.was_honest;
          falls = r.falls;
          kept = r.kept;
          done = elim r.done [ inl d ↦ inl (done_by result d) | inr n ↦ inr (not_begun_by result n) ];
        };
        begins = none_begins;
        followed = none_follows result;
        same_log = none_same result;
      })
