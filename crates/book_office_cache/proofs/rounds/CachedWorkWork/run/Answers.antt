use Rattle.std.proofs.Common.{◌≡◌, refl, rules}
use Rattle.book_office_cache.proofs.rounds.CachedWorkWork.run.Goals as goal

pub returns-clause-does : goal.returns-clause-does
returns-clause-does g c =
    let same : c.run_behind.new.cached.keeper.now ≡ c.keeper-1.given.0 = search rules in
    record {
      name = _;
      memory = _;
      same_work = refl;
      same_memory = refl;
      done = rw (c.run_behind.ensures.same_keeper, c.run_behind.ensures.same_memory, same) at c.run_behind.ensures.does;
    }
