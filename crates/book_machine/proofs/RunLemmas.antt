-- A run goes on by one step.
use Rattle.book_machine.proofs.Common.{◌≡◌, List, [], ◌∷◌, ◌++◌, refl, inl, inr, Office, Standing, Reply, ServePromise, Call, last_office, Serves}
use Rattle.book_office.specs.Keeping.{Leftover}
use Rattle.book_machine.proofs.UnseenRuns.{runs_alike}
use Rattle.book_machine.specs.Promises.{ServeAllPromise}
use Rattle.book_machine.specs.Runs.{Run, MayLeave, MayLeaveAfter}
use Rattle.book_office.proofs.Fallbacks.{still_falls, then_falls}

run_more : (o after : Office) (calls : List Call) (replies : List Reply) (offices : List Office) (call : Call) (reply : Reply)
    → Run o calls replies offices → Serves (last_office o offices) call.0 call.1 reply after → Run o (calls ++ call ∷ []) (replies ++ reply ∷ []) (offices ++ after ∷ [])
run_more o after [] [] [] call reply run step = (step, tt)
run_more o after [] [] (x ∷ offices) call reply run step = absurd run
run_more o after [] (r ∷ replies) offices call reply run step = absurd run
run_more o after (c ∷ calls) [] offices call reply run step = absurd run
run_more o after (c ∷ calls) (r ∷ replies) [] call reply run step = absurd run
run_more o after (c ∷ calls) (r ∷ replies) (x ∷ offices) call reply run step = (run.0, run_more x after calls replies offices call reply run.1 step)

last_more : (o after : Office) (offices : List Office) → last_office o (offices ++ after ∷ []) ≡ after
last_more o after [] = refl
last_more o after (x ∷ offices) = last_more x after offices

-- what may be left grows with what could be left before
leave_more : (before new : Leftover → Type 0) (o after : Office) (calls : List Call) (replies : List Reply) (offices : List Office) (call : Call) (reply : Reply)
    → Run o calls replies offices
    → ((x : Leftover) → new x → MayLeave (MayLeaveAfter before o calls replies offices) (last_office o offices) call reply x)
    → (x : Leftover) → new x → MayLeaveAfter before o (calls ++ call ∷ []) (replies ++ reply ∷ []) (offices ++ after ∷ []) x
leave_more before new o after [] [] [] call reply run more x left = more x left
leave_more before new o after [] [] (y ∷ offices) call reply run more x left = absurd run
leave_more before new o after [] (r ∷ replies) offices call reply run more x left = absurd run
leave_more before new o after (c ∷ calls) [] offices call reply run more x left = absurd run
leave_more before new o after (c ∷ calls) (r ∷ replies) [] call reply run more x left = absurd run
leave_more before new o after (c ∷ calls) (r ∷ replies) (y ∷ offices) call reply run more x left =
    leave_more (MayLeave before o c r) new y after calls replies offices call reply run.1 more x left

pub no_calls : (old : Standing) → ServeAllPromise old old [] []
no_calls old = record {
  was_honest = λ h. h;
  falls = still_falls;
  run = λ h o stands. ([], stands, tt, λ x left. left, runs_alike o [] [] [] tt);
}

pub one_more_call : (old mid new : Standing) (calls : List Call) (replies : List Reply) (call : Call) (reply : Reply)
    → ServeAllPromise old mid calls replies → ServePromise mid new call.0 call.1 reply → ServeAllPromise old new (calls ++ call ∷ []) (replies ++ reply ∷ [])
one_more_call old mid new calls replies call reply runs serve = record {
  was_honest = λ h. runs.was_honest (serve.was_honest h);
  falls = then_falls runs.falls serve.falls;
  run = λ h o stands.
      let so_far = runs.run (serve.was_honest h) o stands in
      let offices = so_far.0 in
      let next = serve.served h (last_office o offices) so_far.1 in
      let run = run_more o next.0 calls replies offices call reply so_far.2 next.2 in (
        offices ++ next.0 ∷ [],
        rw (last_more o next.0 offices) next.1,
        run,
        leave_more old.left new.left o next.0 calls replies offices call reply so_far.2
            (λ x left. let may = serve.left h (last_office o offices) so_far.1 x left in
            (elim may.0 [ inl before ↦ inl (so_far.3 x before) | inr made ↦ inr made ], may.1)),
        runs_alike o (calls ++ call ∷ []) (replies ++ reply ∷ []) (offices ++ next.0 ∷ []) run,
      );
}
