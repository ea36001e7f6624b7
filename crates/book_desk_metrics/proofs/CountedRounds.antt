-- A round of a service whose replies are counted is that of the service.
use Rattle.std.proofs.Common.{inl, inr, Result, Ok, Err, ap}
use Rattle.std.proofs.lemmas.Bool.{false≢true}
use Rattle.book_office.specs.Keeping.{Standing}
use Rattle.book_office.specs.declared.keepers.StoreFault.{StoreFault}
use Rattle.book_wire_serving.specs.Rounds.{IsServedRound}
use Rattle.book_wire_serving.specs.Serving.{Serving}
use Rattle.book_desk_metrics.specs.CountedRounds.{IsCountedWork, counted_in}
use Rattle.book_desk_metrics.specs.declared.rounds.CountedWork.{CountedWork}

module _ {I W : Type 0} (inside : I → Standing) (does : Serving → Serving → W → W → Type 0) (old new : Serving) (before after : CountedWork W) where
  pub round_counted : (r : Result (Unit {0}) StoreFault) → IsServedRound inside (IsCountedWork does) old new before after r
      → IsServedRound (counted_in inside) does old new before.work.now after.work.now r
  round_counted (Ok u) s = record {
    first_log = s.first_log;
    last_log = s.last_log;
    round = record {
      was_honest = s.round.was_honest;
      falls = s.round.falls;
      kept = λ h. tt;
      done = elim s.round.done [
        | inl d ↦ inl (record {
          first = (d.first, d.done.name);
          last = (d.last, d.done.name);
          done = d.done.done;
          begins = d.begins;
          begins_left = d.begins_left;
          begins_counted = d.begins_counted;
          honest = d.honest;
          made = d.made;
          left_made = d.left_made;
          left_kept = λ h. tt;
          counted = d.counted;
          counted_once = tt;
        })
        | inr n ↦ absurd (false≢true n.refused)
      ];
    };
    begins = s.begins;
    followed = s.followed;
    same_log = tt;
  }
  round_counted (Err fault) s = record {
    first_log = s.first_log;
    last_log = s.last_log;
    round = record {
      was_honest = s.round.was_honest;
      falls = s.round.falls;
      kept = s.round.kept;
      done = elim s.round.done [
        | inl d ↦ inl (record {
          first = (d.first, d.done.name);
          last = (d.last, d.done.name);
          done = d.done.done;
          begins = d.begins;
          begins_left = d.begins_left;
          begins_counted = d.begins_counted;
          honest = λ h. tt;
          made = λ h. tt;
          left_made = λ h. tt;
          left_kept = d.left_kept;
          counted = tt;
          counted_once = d.counted_once;
        })
        | inr n ↦ inr (record {
          refused = n.refused;
          same = ap (λ (w : CountedWork W). w.work.now) n.same;
          left = n.left;
          counted = n.counted;
        })
      ];
    };
    begins = s.begins;
    followed = tt;
    same_log = s.same_log;
  }
