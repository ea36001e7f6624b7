-- A call of the keeper of an open transaction.
use Rattle.book_tables.proofs.Common.{◌≡◌, ℕ, Bool, true, false, List, [], ◌∷◌, Result, Ok, Err, arith, refl, sym, subst, ap, ◌∙◌, inl, inr, true≢false, IsTrue, State, HasCleanDisk, Survives, Office, StoreFault, Leftover, Reads, failures_after_fault, Keeps, inside_of, ReadsInside, EditsInside, standing_within, IsKept, LeftOf}
use Rattle.std.specs.Prelude.{is_err}
use Rattle.std.specs.Borrow.{GName}
use Rattle.book_office.specs.declared.edits.Edit.{Edit}
use Rattle.book_office.specs.Keeping.{Edits, FallsBack}
use Rattle.book_office.proofs.Fallbacks.{still_falls}
use Rattle.book_tables.specs.Keeps.{StandsWithin, fallback_within}
use Rattle.book_tables.proofs.Readings.{stands_then}

-- ---- what is left where the transaction is not kept

module _ (old new : State) (survives : Survives old new (λ _. ⊥)) where
  clean_before : HasCleanDisk new → HasCleanDisk old
  clean_before h = omega (arith, h, survives.clean)

  left_before : HasCleanDisk new → (x : Leftover) → LeftOf new x → LeftOf old x
  left_before h x (trees, may, by) = elim (survives.crash h trees may) [ inl kept ↦ (trees, kept, by) | inr none ↦ absurd none ]

  falls_within : (before after : List GName) → after ≡ before → Keeps old new → (spoiled : Bool) → (HasCleanDisk new → spoiled ≡ false → IsTrue old.in_transaction → IsTrue new.in_transaction)
      → FallsBack (fallback_within before old false) (fallback_within after new spoiled)
  falls_within before after same kept spoiled inside = record {
    names = same;
    stands = λ o without h.
        let was = without (clean_before h) in
        let commit = kept h (was.inside refl) in
        record {
          inside = λ good. inside h good (was.inside refl);
          committed = λ now. subst (λ db. IsKept db o) (sym (commit.committed now)) (was.committed (commit.was_open now));
          sound = was.sound;
        };
    left = λ x left. (clean_before left.0, left_before left.0 x left.1);
  }

-- ---- a read

module _ {A : Type 0} (t a b : GName) (same : b ≡ a) (old new : State) (n m : ℕ) (written : Bool) (Tells : Office → A → Type 0) where
  -- any error spoils the keeper
  pub read_within : (r : Result A StoreFault) → ReadsInside (inside_of old n) (inside_of new m) r Tells
      → Reads (standing_within (t ∷ a ∷ []) old n false written) (standing_within (t ∷ b ∷ []) new m (is_err r) written) r Tells
  read_within (Ok x) read = record {
    was_honest = λ h. (clean_before old new read.survives h.0, refl);
    falls = falls_within old new read.survives (t ∷ a ∷ []) (t ∷ b ∷ []) (ap (λ name. t ∷ name ∷ []) same) read.kept false (λ h good inside. (read.stays h).mode ∙ inside);
    value = λ h o stands. read.value h.0 stands.inside o stands.shown;
    kept = λ h o stands. stood h.0 o stands;
    left = λ h y left. record { kept = λ w o kept. left.kept w o (still_kept h.0 o kept); untouched = λ w. left_before old new read.survives h.0 y (left.untouched w) };
    counted = read.counted;
  }
    where
      still_kept : HasCleanDisk new → (o : Office) → IsKept old.now o → IsKept new.now o
      still_kept h o kept = subst (λ db. IsKept db o) (sym ((read.stays h).same kept.book)) kept

      stood : HasCleanDisk new → (o : Office) → StandsWithin old written o → StandsWithin new written o
      stood h o stands =
          let commit = read.kept h stands.inside in
          record {
            inside = (read.stays h).mode ∙ stands.inside;
            shown = stands_then old new commit (read.stays h) o stands.shown;
            unwritten = λ w now. subst (λ db. IsKept db o) (sym (commit.committed now)) (stands.unwritten w (commit.was_open now));
          }
  read_within (Err fault) read = record {
    was_honest = λ h. absurd (true≢false h.1);
    falls = falls_within old new read.survives (t ∷ a ∷ []) (t ∷ b ∷ []) (ap (λ name. t ∷ name ∷ []) same) read.kept true (λ h good. absurd (true≢false good));
    value = λ h. tt;
    kept = λ h. absurd (true≢false h.1);
    left = λ h. absurd (true≢false h.1);
    counted = read.counted;
  }

-- ---- an edit

module _ (t a b : GName) (same : b ≡ a) (old new : State) (n m : ℕ) (written : Bool) (edit : Edit) where
  pub edit_within : (r : Result (Unit {0}) StoreFault) → EditsInside (inside_of old n) (inside_of new m) r edit
      → Edits (standing_within (t ∷ a ∷ []) old n false written) (standing_within (t ∷ b ∷ []) new m (is_err r) true) r edit
  edit_within (Ok tt) edited = record {
    was_honest = λ h. (clean_before old new edited.survives h.0, refl);
    falls = falls_within old new edited.survives (t ∷ a ∷ []) (t ∷ b ∷ []) (ap (λ name. t ∷ name ∷ []) same) edited.kept false (λ h good inside. edited.inside h inside);
    made = λ h o stands fits. record { inside = edited.inside h.0 stands.inside; shown = (λ _. edited.made h.0 stands.inside o stands.shown fits, fits.sound); unwritten = λ w. absurd (true≢false w) };
    kept = λ h. tt;
    left_made = λ h o stands fits y left. left.kept refl _ (edited.made h.0 stands.inside o stands.shown fits);
    left_kept = λ h. tt;
    counted = edited.counted;
  }
  edit_within (Err fault) edited = record {
    was_honest = λ h. absurd (true≢false h.1);
    falls = falls_within old new edited.survives (t ∷ a ∷ []) (t ∷ b ∷ []) (ap (λ name. t ∷ name ∷ []) same) edited.kept true (λ h good. absurd (true≢false good));
    made = λ h. tt;
    kept = λ h. absurd (true≢false h.1);
    left_made = λ h. tt;
    left_kept = λ h. absurd (true≢false h.1);
    counted = edited.counted;
  }

-- ---- one that was spoiled before does nothing

module _ (names : List GName) (s : State) (n m : ℕ) (spoiled written : Bool) (fault : StoreFault) (counted : m ≡ failures_after_fault fault n) where
  pub read_spoiled : {A : Type 0} (Tells : Office → A → Type 0) → Reads {A = A} (standing_within names s n spoiled written) (standing_within names s m spoiled written) (Err fault) Tells
  read_spoiled Tells = record { was_honest = λ h. h; falls = still_falls; value = λ h. tt; kept = λ h o stands. stands; left = λ h y left. left; counted = counted }

  pub edit_spoiled : (edit : Edit) → Edits (standing_within names s n spoiled written) (standing_within names s m spoiled written) (Err fault) edit
  edit_spoiled edit = record { was_honest = λ h. h; falls = still_falls; made = λ h. tt; kept = λ h o stands. stands; left_made = λ h. tt; left_kept = λ h o stands fits y left. inl left; counted = counted }
