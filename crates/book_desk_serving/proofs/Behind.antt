-- What was served over a keeper that remembers was served over the keeper behind it.
use Rattle.book_desk_serving.proofs.Common.{◌≡◌, ℕ, List, Option, refl, sym, subst}
use Rattle.book_office_cache.specs.Remembering.{Remembers, own_memory, remembering}
use Rattle.book_office_cache.specs.declared.cached.Cached.{Cached}
use Rattle.book_office_cache.specs.declared.remembered.Remembered.{Remembered}
use Rattle.book_office.specs.Keeping.{Standing}
use Rattle.book_office_values.specs.declared.offices.Office.{Office}
use Rattle.book_wire_serving.specs.Logs.{Log, no_log}
use Rattle.book_wire_serving.specs.Serving.{Answered, Runs, Serving, StandsStill, Stays}
use Rattle.book_desk_serving.specs.Streams.{unlogged, with_log}
use Rattle.book_desk_serving.specs.Tasks.{EndsPipe}
use Rattle.book_desk_app.specs.declared.failures.Failure.{Failure}
use Rattle.book_desk_serving.proofs.Alike.{pipe_as}

module _ (old new : Standing) (log logs : Log) (was is : Remembered) (nothing : (o : Office) → Remembers was o) where
  abbrev ahead : Serving
  ahead = with_log log (remembering old (own_memory was))

  abbrev ahead_then : Serving
  ahead_then = with_log logs (remembering new (own_memory is))

  runs_behind : (answered : List Answered) → Runs ahead ahead_then answered → Runs (with_log log old) (with_log logs new) answered
  runs_behind answered runs = record {
    well_formed = runs.well_formed;
    was_honest = runs.was_honest;
    falls = runs.falls;
    run = λ h o stands. let x = runs.run h o (stands, nothing o) in (x.0, x.1.0, x.2, x.3);
    noted = runs.noted;
  }

  pub still_behind : StandsStill (remembering old (own_memory was)) (remembering new (own_memory is)) → StandsStill old new
  still_behind still = record {
    was_honest = still.was_honest;
    falls = still.falls;
    kept = λ h o stands. (still.kept h o (stands, nothing o)).0;
    left = still.left;
    counted = still.counted;
  }

  stays_behind : Stays ahead ahead_then → Stays (with_log log old) (with_log logs new)
  stays_behind stays = record { still = still_behind stays.still; log = stays.log }

  pub pipe_behind : (Told : Failure → Type 0) (before after held holds : Option (List ℕ)) (status : ℕ) → EndsPipe Told ahead before after held holds status ahead_then
      → EndsPipe Told (with_log log old) before after held holds status (with_log logs new)
  pipe_behind = pipe_as ahead ahead_then (with_log log old) (with_log logs new) runs_behind stays_behind refl

-- the keeper that is given, one in front of it that remembers nothing, and what comes back of it
module _ (Told : Failure → Type 0) {K : Type 0} (standing : K → Standing) (before after held holds : Option (List ℕ)) (status : ℕ) where
  abbrev Piped : Standing → Standing → Type 0
  Piped old new = EndsPipe Told (unlogged old) before after held holds status (unlogged new)

  abbrev pub standing_before : Cached K Remembered → Standing
  standing_before k = remembering (standing k.keeper) (own_memory k.remembered)

  pub piped_behind : (old new : K) (was start end back : Cached K Remembered) → was.keeper ≡ old → ((o : Office) → Remembers was.remembered o) → start ≡ was → back ≡ end → new ≡ back.keeper
      → EndsPipe Told (unlogged (standing_before start)) before after held holds status (unlogged (standing_before end))
      → EndsPipe Told (unlogged (standing old)) before after held holds status (unlogged (standing new))
  piped_behind old new was start end back keeper nothing start_is back_is new_is ends =
      let at_start : Piped (standing_before was) (standing_before end) = subst (λ k. Piped (standing_before k) (standing_before end)) start_is ends in
      let at_end : Piped (standing_before was) (standing_before back) = subst (λ k. Piped (standing_before was) (standing_before k)) (sym back_is) at_start in
      let behind : Piped (standing was.keeper) (standing back.keeper) =
      pipe_behind (standing was.keeper) (standing back.keeper) no_log no_log was.remembered back.remembered nothing Told
      before after held holds status at_end in
      subst (λ k. Piped (standing k) (standing new)) keeper (subst (λ k. Piped (standing was.keeper) (standing k)) (sym new_is) behind)
