use Rattle.std.proofs.Common.{inl, refl}
use Rattle.book_office.proofs.Fallbacks.{still_falls}
use Rattle.examples_requests.proofs.failing.FailingRounds.round.Goals as goal

pub returns : goal.returns
returns g c = record {
  was_honest = λ h. h;
  falls = still_falls;
  kept = λ h. absurd h;
  done = inl (record {
    first = c.args.self.now.failures;
    last = c.run.new.keeper.failures;
    done = c.run.ensures.does;
    begins = λ h. absurd h;
    begins_left = λ h. absurd h;
    begins_counted = refl;
    honest = λ h. tt;
    made = λ h. tt;
    left_made = λ h. tt;
    left_kept = λ h. absurd h;
    counted = tt;
    counted_once = inl refl;
  });
}
