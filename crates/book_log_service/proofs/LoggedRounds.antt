-- What is done in a round, and what is known after it.
use Rattle.std.proofs.Common.{◌≡◌, inl, inr, ℕ, Bool, List, [], ◌∷◌, Option, Some, Result, Ok, Err, refl, sym, ap, subst}
use Rattle.std.specs.Borrow.{GName}
use Rattle.book_office.specs.Keeping.{FallsBack, Standing, lent}
use Rattle.book_office.specs.Rounds.{IsDone, IsNotBegun, IsRound}
use Rattle.book_office.specs.declared.keepers.StoreFault.{StoreFault}
use Rattle.book_office.specs.declared.keepers.StoreFault.TheVariants.{Memory}
use Rattle.book_office.proofs.Fallbacks.{still_falls}
use Rattle.book_log_service.specs.Kept.{OwesNoted, log_of}
use Rattle.book_machine.specs.declared.messages.Reply.{Reply}
use Rattle.book_machine.specs.declared.messages.Request.{Request}
use Rattle.book_log_service.specs.Rounds.{IsLoggedWork, log_on}
use Rattle.book_log_service.specs.declared.rounds.LoggedWork.{LoggedWork}
use Rattle.book_wire_serving.specs.Logs.{Log}
use Rattle.book_wire_serving.proofs.LentServings.{falls_by, owes_over, tails}
use Rattle.book_wire_serving.specs.Rounds.{BeginsEmpty, IsFollowed, IsServedRound, lent_by, with_log}
use Rattle.book_wire_serving.specs.Serving.{Owes, Serving}

-- what falls back with its references does so without them
pub falls_without : (a b c d e f : GName) (s t : Standing)
    → FallsBack (lent_by (a ∷ b ∷ []) (lent c s)).fallback (lent_by (d ∷ e ∷ []) (lent f t)).fallback → FallsBack s.fallback t.fallback
falls_without a b c d e f s t falls = record {
  names = tails f c _ _ (tails e b _ _ (tails d a _ _ falls.names));
  stands = falls.stands;
  left = falls.left;
}

-- ---- what serves in a round
-- what is owed by a machine of a keeper that is lent, by whatever reference, is owed on a page
pub owes_page : (ns : List GName) (n m : GName) (s t : Standing) (failed failed_then : Bool) (text text_then : List ℕ) (owed : Bool → List ℕ)
    (name : Option (List ℕ)) (request : Request) (reply : Reply)
    → text_then ≡ text → OwesNoted (lent n s) (lent m t) failed failed_then owed name request reply
    → Owes (with_log (log_of failed (Some text)) (lent_by ns s)) (with_log (log_of failed_then (Some text_then)) (lent_by ns t)) owed name request reply
owes_page ns n m s t failed failed_then text text_then owed name request reply same o =
    let now : Owes (with_log (log_of failed (Some text)) (lent n s)) (with_log (log_of failed_then (Some text)) (lent m t)) owed name request reply = o (Some text) in
    let falls : FallsBack s.fallback t.fallback =
    record { names = tails m n _ _ now.served.falls.names; stands = now.served.falls.stands; left = now.served.falls.left } in
    let P : List ℕ → Type 0 = λ bytes.
    Owes (with_log (log_of failed (Some text)) (lent_by ns s)) (with_log (log_of failed_then (Some bytes)) (lent_by ns t)) owed name request reply in
    subst P (sym same)
    (owes_over (lent_by ns s).fallback (lent_by ns t).fallback (with_log (log_of failed (Some text)) (lent n s)) (with_log (log_of failed_then (Some text)) (lent m t))
    owed name request reply (falls_by ns s t falls) now)

-- what was done over what serves in a round
pub logged_done : {K W C : Type 0} (does : Serving → Serving → W → W → Type 0) (standing : K → Standing) (first last now : K) (before after : LoggedWork W C) (n m k n' m' k' : GName)
    → after.work.ghost_name ≡ before.work.ghost_name → after.notes.ghost_name ≡ before.notes.ghost_name → after.page.ghost_name ≡ before.page.ghost_name
    → n' ≡ n → m' ≡ m → k' ≡ k → last ≡ now
    → does (with_log (log_on before.page.now) (lent_by (n ∷ m ∷ []) (lent k (standing first)))) (with_log (log_on after.page.now) (lent_by (n' ∷ m' ∷ []) (lent k' (standing last))))
    before.work.now after.work.now
    → IsLoggedWork does (standing first) (standing now) before after
logged_done {K} does standing first last now before after n m k n' m' k' work notes page a b c same done = record {
  names = n ∷ m ∷ k ∷ [];
  same_work = work;
  same_notes = notes;
  same_page = page;
  done =
      let all : n' ∷ m' ∷ k' ∷ [] ≡ n ∷ m ∷ k ∷ [] = cc in
      let P : List GName → Type 0 = λ names.
      does (with_log (log_on before.page.now) (lent_by (n ∷ m ∷ k ∷ []) (standing first))) (with_log (log_on after.page.now) (lent_by names (standing last)))
      before.work.now after.work.now in
      let Q : K → Type 0 = λ keeper.
      does (with_log (log_on before.page.now) (lent_by (n ∷ m ∷ k ∷ []) (standing first))) (with_log (log_on after.page.now) (lent_by (n ∷ m ∷ k ∷ []) (standing keeper)))
      before.work.now after.work.now in
      subst Q same (subst P all done);
}

-- ---- a round
module _ {I W C : Type 0} (inside : I → Standing) (does : Serving → Serving → W → W → Type 0) (old new : Standing) (before after : LoggedWork W C) (result : Result (Unit {0}) StoreFault) where
  abbrev by_all : I × List GName → Standing
  by_all i = lent_by i.1 (inside i.0)

  abbrev DoesOn : Standing → Standing → W → W → Type 0
  DoesOn s t b a = does (with_log (log_on before.page.now) s) (with_log (log_on after.page.now) t) b a

  done_by : IsDone inside (IsLoggedWork does) old new before after result → IsDone by_all DoesOn old new before.work.now after.work.now result
  done_by d = record {
    first = (d.first, d.done.names);
    last = (d.last, d.done.names);
    done = d.done.done;
    begins = d.begins;
    begins_left = d.begins_left;
    begins_counted = d.begins_counted;
    honest = d.honest;
    made = d.made;
    left_made = d.left_made;
    left_kept = d.left_kept;
    counted = d.counted;
    counted_once = d.counted_once;
  }

  not_begun_by : IsNotBegun inside (IsLoggedWork does) old new before after result → IsNotBegun by_all DoesOn old new before.work.now after.work.now result
  not_begun_by n = record {
    refused = n.refused;
    same = ap (λ (w : LoggedWork W C). w.work.now) n.same;
    left = n.left;
    counted = n.counted;
  }

  round_by : IsRound inside (IsLoggedWork does) old new before after result → IsRound by_all DoesOn old new before.work.now after.work.now result
  round_by r = record {
    was_honest = r.was_honest;
    falls = r.falls;
    kept = r.kept;
    done = elim r.done [ inl d ↦ inl (done_by d) | inr n ↦ inr (not_begun_by n) ];
  }

begins_on : (failed : Bool) (held : Option (List ℕ)) (first : Log) → first.failed ≡ failed → first.held ≡ Some [] → BeginsEmpty (log_of failed held) first
begins_on failed held first same empty = record { begins = same; empty = λ bytes holds. empty }

module _ {I W C : Type 0} (inside : I → Standing) (does : Serving → Serving → W → W → Type 0) (old new : Standing) (failed : Bool) (held : Option (List ℕ)) where
  -- a round that was kept
  pub logged_kept : (before after : LoggedWork W C) (work : W) (last new_log : Log) → IsFollowed (log_of failed held) last new_log
      → after.work.now ≡ work → log_on after.page.now ≡ last → before.page.now.text.items ≡ [] → before.page.now.failed ≡ failed
      → IsRound inside (IsLoggedWork does) old new before after (Ok tt)
      → IsServedRound (λ (i : I × List GName). lent_by i.1 (inside i.0)) does (with_log (log_of failed held) old) (with_log new_log new) before.work.now work (Ok tt)
  logged_kept before after work last new_log followed is turned empty same r =
      let Q : Log → Type 0 = λ l. IsFollowed (log_of failed held) l new_log in
      let P : W → Type 0 = λ w.
      IsServedRound (λ (i : I × List GName). lent_by i.1 (inside i.0)) does (with_log (log_of failed held) old) (with_log new_log new) before.work.now w (Ok tt) in
      subst P is (record {
        first_log = log_on before.page.now;
        last_log = log_on after.page.now;
        round = round_by inside does old new before after (Ok tt) r;
        begins = begins_on failed held (log_on before.page.now) same (ap Some empty);
        followed = subst Q (sym turned) followed;
        same_log = tt;
      })

  -- a round that was not kept
  pub logged_tried : (before after : LoggedWork W C) (work : W) (fault : StoreFault) → after.work.now ≡ work → before.page.now.text.items ≡ [] → before.page.now.failed ≡ failed
      → IsRound inside (IsLoggedWork does) old new before after (Err fault)
      → IsServedRound (λ (i : I × List GName). lent_by i.1 (inside i.0)) does (with_log (log_of failed held) old) (with_log (log_of failed held) new) before.work.now work (Err fault)
  logged_tried before after work fault is empty same r =
      let P : W → Type 0 = λ w.
      IsServedRound (λ (i : I × List GName). lent_by i.1 (inside i.0)) does (with_log (log_of failed held) old) (with_log (log_of failed held) new) before.work.now w (Err fault) in
      subst P is (record {
        first_log = log_on before.page.now;
        last_log = log_on after.page.now;
        round = round_by inside does old new before after (Err fault) r;
        begins = begins_on failed held (log_on before.page.now) same (ap Some empty);
        followed = tt;
        same_log = refl;
      })

module _ {I W : Type 0} (inside : I → Standing) (does : Serving → Serving → W → W → Type 0) (old : Standing) (failed : Bool) (held : Option (List ℕ)) where
  -- a round for which there is no page
  pub logged_none : (work : W)
      → IsServedRound (λ (i : I × List GName). lent_by i.1 (inside i.0)) does (with_log (log_of failed held) old) (with_log (log_of failed held) old) work work (Err Memory)
  logged_none work = record {
    first_log = log_of failed (Some []);
    last_log = log_of failed (Some []);
    round = record {
      was_honest = λ h. h;
      falls = still_falls;
      kept = λ h o stands. stands;
      done = inr (record { refused = refl; same = refl; left = λ h x left. left; counted = refl });
    };
    begins = begins_on failed held (log_of failed (Some [])) refl refl;
    followed = tt;
    same_log = refl;
  }
