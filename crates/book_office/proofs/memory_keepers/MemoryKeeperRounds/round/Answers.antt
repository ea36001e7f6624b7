use Rattle.book_office.proofs.Common.{refl, inl}
use Rattle.book_office.proofs.Fallbacks.{still_falls}
use Rattle.book_office.proofs.memory_keepers.MemoryKeeperRounds.round.Goals as goal

-- the round is the keeper itself
pub returns : goal.returns
returns g c = record {
  was_honest = λ h. h;
  falls = still_falls;
  kept = λ h. tt;
  done = inl (record {
    first = c.args.self.now;
    last = c.run.new.keeper;
    done = c.run.ensures.does;
    begins = λ h o stands. stands;
    begins_left = λ h x left. left;
    begins_counted = refl;
    honest = λ h. tt;
    made = λ h o stands. stands;
    left_made = λ h x left. left;
    left_kept = λ h. tt;
    counted = refl;
    counted_once = tt;
  });
}
