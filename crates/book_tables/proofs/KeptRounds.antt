-- A round in a transaction of its own.
use Rattle.book_tables.proofs.Common.{◌≡◌, ◌⊎◌, inl, inr, ◌≤◌, ℕ, suc, Bool, Ok, Err, arith, refl, sym, ap, subst, ◌∙◌, IsTrue, false, true, true≢false, State, HasCleanDisk, Survives, Office, StoreFault, Standing, Leftover, failures_after_fault, standing_of, standing_within, List, IsKept, StandsFor, LeftOf, state}
use Rattle.std.proofs.Common.{zero}
use Rattle.std.specs.Borrow.{GName}
use Rattle.sqlite_trees.specs.Tree.{Trees}
use Rattle.sqlite_trees.specs.View.{doubt}
use Rattle.sqlite_trees.specs.declared.store.Store.{Ghosts}
use Rattle.sqlite.specs.Held.{Held}
use Rattle.sqlite.specs.State.{IsRolledBack, Shows}
use Rattle.sqlite.specs.Steps.{FailsToCommit}
use Rattle.sqlite.specs.declared.error.Error.{Error}
use Rattle.book_office.specs.Edits.{empty_office}
use Rattle.book_office.specs.Keeping.{FallsBack, one_more}
use Rattle.book_office.specs.Rounds.{IsRound}
use Rattle.book_office.specs.Sound.{IsSound}
use Rattle.book_office.specs.declared.keepers.StoreFault.TheVariants.{Store, Memory}
use Rattle.book_office.proofs.Fallbacks.{still_falls}
use Rattle.book_tables.specs.Keeps.{StandsWithin, LeftWithin, StandsWithout, fallback_within}
use Rattle.book_tables.specs.Stands.{LeftBy}
use Rattle.book_tables.specs.Rounds.{IsRun, standing_in}
use Rattle.book_tables.proofs.OneOffice.{kept_stands, only_left}

-- an Office that is not sound
abbrev beyond : Office
beyond = record empty_office { epoch = 9007199254740992 }

not_sound : IsSound beyond → ⊥
not_sound sound = let within : 9007199254740992 ≤ 9007199254740991 = sound.epoch in omega (arith, within)

none_or_some : (n : ℕ) → (n ≡ 0) ⊎ (n ≡ 0 → ⊥)
none_or_some zero = inl refl
none_or_some (suc n) = inr (λ none. omega (arith, none))

counted_or_not : (fault : StoreFault) (n m : ℕ) → n ≡ failures_after_fault fault m → (n ≡ m) ⊎ (n ≡ one_more m)
counted_or_not Memory n m e = inl e
counted_or_not Store n m e = inr e

module _ {S W : Type 0} (g : Ghosts S) (does : Standing → Standing → W → W → Type 0) (before after : W) (old begun mid new : Held S) (n m : ℕ) (spoiled written : Bool)
    (is : state g begun ≡ record (state g old) { in_transaction = true }) (settled : IsTrue (state g old).is_open → (state g old).now ≡ (state g old).committed)
    (run : IsRun does (state g begun) (state g mid) n m spoiled written before after) where
  -- ---- the transaction as it begins
  begins : (o : Office) → StandsFor (state g old) o → StandsWithin (state g begun) false o
  begins o stands = subst (λ s. StandsWithin s false o) (sym is) (record { inside = refl; shown = stands; unwritten = λ w now. subst (λ db. IsKept db o) (settled now) (stands.0 now) })

  begins_left : (x : Leftover) → LeftWithin (state g begun) false x → LeftOf (state g old) x
  begins_left x left = subst (λ s. LeftOf s x) is (left.untouched refl)

  without : (o : Office) → StandsFor (state g old) o → StandsWithout (state g begun) false o
  without o stands = let within = begins o stands in record { inside = λ good. within.inside; committed = within.unwritten refl; sound = stands.1 }

  -- ---- and after the work
  -- the disk had returned what was written: else any Office, also one that is not sound, would be said to stand where the transaction is not kept
  clean_begun : HasCleanDisk (state g mid) → HasCleanDisk (state g begun)
  clean_begun h = elim (none_or_some (doubt (state g begun).is_clean)) [ inl clean ↦ clean | inr dirty ↦ absurd (not_sound (run.falls.stands beyond (λ clean. absurd (dirty clean)) h).sound) ]

  without_mid : HasCleanDisk (state g mid) → (o : Office) → StandsFor (state g old) o → StandsWithout (state g mid) spoiled o
  without_mid h o stands = run.falls.stands o (λ _. without o stands) h

  left_mid : HasCleanDisk (state g mid) → (x : Leftover) → LeftOf (state g mid) x → LeftOf (state g old) x
  left_mid h x left = subst (λ s. LeftOf s x) is (run.falls.left x (h, left)).1

  -- ---- and at the end
  clean_mid : {Leaves : Trees → Type 0} → Survives (state g mid) (state g new) Leaves → HasCleanDisk (state g new) → HasCleanDisk (state g mid)
  clean_mid survives h = omega (arith, h, survives.clean)

  was_clean : {Leaves : Trees → Type 0} → Survives (state g mid) (state g new) Leaves → HasCleanDisk (state g new) → HasCleanDisk (state g old)
  was_clean survives h = subst HasCleanDisk is (clean_begun (clean_mid survives h))

  -- what was rolled back stands for what was committed
  stands_back : HasCleanDisk (state g mid) → IsRolledBack (state g mid) (state g new) → (o : Office) → StandsFor (state g old) o → StandsFor (state g new) o
  stands_back h undone o stands =
      let was = without_mid h o stands in
      (λ now. subst (λ db. IsKept db o) (sym (undone.undone now).0) (was.committed (undone.was_open now)), stands.1)

  module _ (survives : Survives (state g mid) (state g new) (λ _. ⊥)) (undone : HasCleanDisk (state g new) → IsRolledBack (state g mid) (state g new)) where
    left_back : HasCleanDisk (state g new) → (x : Leftover) → LeftOf (state g new) x → LeftOf (state g mid) x
    left_back h x (trees, may, by) = elim (survives.crash h trees may) [ inl kept ↦ (trees, kept, by) | inr none ↦ absurd none ]

    -- it is undone, since a call has failed
    pub round_undone : (fault : StoreFault) → IsRound (standing_in g) does (standing_of (state g old) n) (standing_of (state g new) m) before after (Err fault)
    round_undone fault = record {
      was_honest = was_clean survives;
      falls = still_falls;
      kept = λ h. stands_back (clean_mid survives h) (undone h);
      done = inl (record {
        first = record { names = run.names; connection = begun; failures = n; spoiled = false; written = false };
        last = record { names = run.names; connection = mid; failures = m; spoiled = spoiled; written = written };
        done = run.done;
        begins = λ h. begins;
        begins_left = λ h. begins_left;
        begins_counted = refl;
        honest = λ h. tt;
        made = λ h. tt;
        left_made = λ h. tt;
        left_kept = λ h x left. inl (left_mid (clean_mid survives h) x (left_back h x left));
        counted = tt;
        counted_once = inl refl;
      });
    }

    -- nothing was written, and it is undone
    pub round_unwritten : spoiled ≡ false → written ≡ false → IsRound (standing_in g) does (standing_of (state g old) n) (standing_of (state g new) m) before after (Ok tt)
    round_unwritten good unwritten = record {
      was_honest = was_clean survives;
      falls = still_falls;
      kept = λ h. tt;
      done = inl (record {
        first = record { names = run.names; connection = begun; failures = n; spoiled = false; written = false };
        last = record { names = run.names; connection = mid; failures = m; spoiled = spoiled; written = written };
        done = run.done;
        begins = λ h. begins;
        begins_left = λ h. begins_left;
        begins_counted = refl;
        honest = λ h. (clean_mid survives h, good);
        made = λ h o stands. (λ now. subst (λ db. IsKept db o) (sym ((undone h).undone now).0) (stands.unwritten unwritten ((undone h).was_open now)), stands.shown.1);
        left_made = λ h x left. record { kept = λ w. absurd (true≢false (sym w ∙ unwritten)); untouched = λ w. left_back h x left };
        left_kept = λ h. tt;
        counted = refl;
        counted_once = tt;
      });
    }

  module _ (survives : Survives (state g mid) (state g new) (λ db. db ≡ (state g mid).now.trees)) (good : spoiled ≡ false) (wrote : written ≡ true) where
    -- what stands for an Office of the rows leaves that one
    left_alone : (trees : Trees) → trees ≡ (state g mid).now.trees → (x : Leftover) → LeftBy trees x → LeftWithin (state g mid) written x
    left_alone trees here x by = record {
      kept = λ w o kept. only_left (state g mid).now o x (kept_stands (state g mid).now o kept) (subst (λ t. LeftBy t x) here by);
      untouched = λ w. absurd (true≢false (sym wrote ∙ w));
    }

    -- it is committed
    pub round_committed : ((trees : Trees) → IsTrue (state g new).is_open → (state g new).may_leave trees → trees ≡ (state g new).committed.trees)
        → (HasCleanDisk (state g new) → Shows (state g mid) (state g new) (state g mid).now (state g mid).now false)
        → IsRound (standing_in g) does (standing_of (state g old) n) (standing_of (state g new) m) before after (Ok tt)
    round_committed settled_new shows = record {
      was_honest = was_clean survives;
      falls = still_falls;
      kept = λ h. tt;
      done = inl (record {
        first = record { names = run.names; connection = begun; failures = n; spoiled = false; written = false };
        last = record { names = run.names; connection = mid; failures = m; spoiled = spoiled; written = written };
        done = run.done;
        begins = λ h. begins;
        begins_left = λ h. begins_left;
        begins_counted = refl;
        honest = λ h. (clean_mid survives h, good);
        made = λ h o stands. (λ now. subst (λ db. IsKept db o) (sym (shows h).now_is) (stands.shown.0 (shows h).was_open), stands.shown.1);
        left_made = λ h x left. left_alone left.0 (settled_new left.0 (shows h).is_open left.1 ∙ ap (λ (d : _). d.trees) (shows h).committed_is) x left.2;
        left_kept = λ h. tt;
        counted = refl;
        counted_once = tt;
      });
    }

    -- its commit failed: it is rolled back, and may still be found whole after a stop
    pub round_uncommitted : (e : Error) (fault : StoreFault) (last : ℕ) → last ≡ failures_after_fault fault m → (HasCleanDisk (state g new) → FailsToCommit (state g mid) (state g new) e)
        → IsRound (standing_in g) does (standing_of (state g old) n) (standing_of (state g new) last) before after (Err fault)
    round_uncommitted e fault last counted fails = record {
      was_honest = was_clean survives;
      falls = still_falls;
      kept = λ h o stands. stands_back (clean_mid survives h) (rolled h o stands (fails h)) o stands;
      done = inl (record {
        first = record { names = run.names; connection = begun; failures = n; spoiled = false; written = false };
        last = record { names = run.names; connection = mid; failures = m; spoiled = spoiled; written = written };
        done = run.done;
        begins = λ h. begins;
        begins_left = λ h. begins_left;
        begins_counted = refl;
        honest = λ h. tt;
        made = λ h. tt;
        left_made = λ h. tt;
        left_kept = λ h. left_either h;
        counted = tt;
        counted_once = counted_or_not fault last m counted;
      });
    }
      where
        rolled : HasCleanDisk (state g new) → (o : Office) → StandsFor (state g old) o → FailsToCommit (state g mid) (state g new) e → IsRolledBack (state g mid) (state g new)
        rolled h o stands (inl fails) = fails.3
        rolled h o stands (inr ended) = let inside : IsTrue (state g mid).in_transaction = (without_mid (clean_mid survives h) o stands).inside good in absurd (true≢false (sym inside ∙ ended.1))

        left_either : HasCleanDisk (state g new) → (x : Leftover) → LeftOf (state g new) x → LeftOf (state g old) x ⊎ ((HasCleanDisk (state g mid) × (spoiled ≡ false)) × LeftWithin (state g mid) written x)
        left_either h x (trees, may, by) = elim (survives.crash h trees may) [
          | inl kept ↦ inl (left_mid (clean_mid survives h) x (trees, kept, by))
          | inr here ↦ inr ((clean_mid survives h, good), left_alone trees here x by)
        ]

-- work over the keeper of an open transaction, by whatever references
pub run_by : {W : Type 0} (does : Standing → Standing → W → W → Type 0) (old new : State) (failed fails : ℕ) (spoiled written : Bool) (before after : W) (names last : List GName)
    → does (standing_within names old failed false false) (standing_within last new fails spoiled written) before after
    → FallsBack (fallback_within names old false) (fallback_within last new spoiled) → IsRun does old new failed fails spoiled written before after
run_by does old new failed fails spoiled written before after names last done falls = record {
  names = names;
  done = subst (λ n. does (standing_within names old failed false false) (standing_within n new fails spoiled written) before after) falls.names done;
  falls = subst (λ n. FallsBack (fallback_within names old false) (fallback_within n new spoiled)) falls.names falls;
}

-- a connection that is in a transaction is refused
pub round_refused : {S W : Type 0} (g : Ghosts S) (does : Standing → Standing → W → W → Type 0) (w : W) (h : Held S) (n m : ℕ) (fault : StoreFault) → m ≡ failures_after_fault fault n
    → IsRound (standing_in g) does (standing_of (state g h) n) (standing_of (state g h) m) w w (Err fault)
round_refused g does w h n m fault counted = record {
  was_honest = λ h. h;
  falls = still_falls;
  kept = λ h o stands. stands;
  done = inr (record { refused = refl; same = refl; left = λ h x left. left; counted = counted });
}
