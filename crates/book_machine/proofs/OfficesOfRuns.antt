-- Each call of a run finds the Office that was left before it, and copies that are kept by reports stay right.
use Rattle.std.proofs.Common.{slice_get, suc, zero}
use Rattle.book_machine.proofs.Common.{◌≡◌, ◌+◌, ℕ, List, [], ◌∷◌, Some, sym, ap, ◌∙◌, subst, arith, Office, Call, Reply}
use Rattle.book_office_sync.specs.SyncedRuns.{Finds}
use Rattle.book_machine.proofs.CopiesOfRuns.{synced}
use Rattle.book_office.specs.Keeping.{in_memory}
use Rattle.book_machine.specs.Laws.{FindsItsOffices, RunsAreSynced}
use Rattle.book_machine.specs.Runs.{Run}
use Rattle.book_machine.specs.SyncedCopies.{machine_steps, FindsAt, FindsAfter}

found_in_run : (o : Office) (calls : List Call) (replies : List Reply) (offices : List Office) → Run o calls replies offices
    → (i : ℕ) (p : Office) → slice_get (o ∷ offices) i ≡ Some p → FindsAt o calls replies i p
found_in_run o calls replies offices run zero p e = let same : o ≡ p = cc (e) in sym same
found_in_run o [] [] [] run (suc i) p e = absurd (cc (e))
found_in_run o [] [] (after ∷ offices) run (suc i) p e = absurd run
found_in_run o [] (reply ∷ replies) offices run (suc i) p e = absurd run
found_in_run o (call ∷ calls) [] offices run (suc i) p e = absurd run
found_in_run o (call ∷ calls) (reply ∷ replies) [] run (suc i) p e = absurd run
found_in_run o (call ∷ calls) (reply ∷ replies) (after ∷ offices) run (suc i) p e = (after, run.0, found_in_run after calls replies offices run.1 i p e)

found_onward : (o : Office) (calls : List Call) (replies : List Reply) (offices : List Office) → Run o calls replies offices
    → (i : ℕ) (p : Office) → slice_get (o ∷ offices) i ≡ Some p → (k : ℕ) (q : Office) → slice_get (o ∷ offices) (i + suc k) ≡ Some q → FindsAfter o calls replies p i k q
found_onward o calls replies offices run zero p e k q f =
    let same : o ≡ p = cc (e) in
    let here : suc k ≡ 0 + suc k = omega arith in
    subst (λ from. Finds machine_steps from calls replies (suc k) q) same (found_in_run o calls replies offices run (suc k) q (ap (slice_get (o ∷ offices)) here ∙ f))
found_onward o [] [] [] run (suc i) p e k q f = absurd (cc (e))
found_onward o [] [] (after ∷ offices) run (suc i) p e k q f = absurd run
found_onward o [] (reply ∷ replies) offices run (suc i) p e k q f = absurd run
found_onward o (call ∷ calls) [] offices run (suc i) p e k q f = absurd run
found_onward o (call ∷ calls) (reply ∷ replies) [] run (suc i) p e k q f = absurd run
found_onward o (call ∷ calls) (reply ∷ replies) (after ∷ offices) run (suc i) p e k q f =
    let further : suc (i + suc k) ≡ suc i + suc k = omega arith in
    found_onward after calls replies offices run.1 i p e k q (ap (slice_get (o ∷ after ∷ offices)) further ∙ f)

pub finds_its_offices : (o : Office) (calls : List Call) (replies : List Reply) (offices : List Office) → Run o calls replies offices → FindsItsOffices o calls replies offices
finds_its_offices o calls replies offices run i p e = (found_in_run o calls replies offices run i p e, found_onward o calls replies offices run i p e)

pub runs_are_synced : RunsAreSynced
runs_are_synced o calls replies offices sound have run = (finds_its_offices o calls replies offices run, synced (in_memory o) calls replies have)
