-- A call in a transaction of its own, which is rolled back after a read or an error, and committed after an edit.
use Rattle.book_tables.proofs.Common.{◌≡◌, ◌⊎◌, inl, inr, ℕ, Result, Ok, Err, arith, sym, ap, subst, ◌∙◌, IsTrue, false, true, true≢false, State, HasCleanDisk, Survives, Office, apply, StoreFault, Reads, Leftover, whole, failures_after_fault, Stays, inside_of, ReadsInside, EditsInside, standing_of, IsKept, StandsFor, LeftOf, unseen_then}
use Rattle.std.proofs.Common.{IsErrAnd}
use Rattle.sqlite.specs.Tree.{Trees}
use Rattle.sqlite.specs.declared.error.Error.{Error}
use Rattle.sqlite.specs.State.{IsRolledBack, KeepsCommit, Shows}
use Rattle.sqlite.specs.Steps.{FailsToCommit}
use Rattle.book_office.specs.declared.edits.Edit.{Edit}
use Rattle.book_office.specs.Keeping.{Edits}
use Rattle.book_office.specs.Sound.{Fits}
use Rattle.book_office.proofs.Fallbacks.{still_falls}
use Rattle.book_tables.specs.Stands.{LeftBy}
use Rattle.book_tables.proofs.OneOffice.{kept_stands, only_left}

-- begun, and left in some way
module _ (old begun mid new : State) (is : begun ≡ record old { in_transaction = true }) (settled : IsTrue old.is_open → old.now ≡ old.committed) where
  from_old : (P : State → Type 0) → P begun → P (record old { in_transaction = true })
  from_old P h = subst P is h

  unseen_begun : Survives begun mid (λ _. ⊥) → Survives old mid (λ _. ⊥)
  unseen_begun s = let h : Survives (record old { in_transaction = true }) mid (λ _. ⊥) = from_old (λ s. Survives s mid (λ _. ⊥)) s in
      record { clean = h.clean; shield = h.shield; counts = h.counts; limit = h.limit; closes = h.closes; crash = h.crash }

  inside_begun : IsTrue begun.in_transaction
  inside_begun = ap (λ (s : State). s.in_transaction) is

  stands_begun : (o : Office) → StandsFor old o → StandsFor begun o
  stands_begun o stands = subst (λ s. StandsFor s o) (sym is) stands

  -- what was rolled back shows what was shown before
  back : KeepsCommit begun mid → IsRolledBack mid new → Stays old new
  back commit undone now =
      let was = undone.was_open now in
      let kept : KeepsCommit (record old { in_transaction = true }) mid = from_old (λ s. KeepsCommit s mid) commit in
      let was_open = kept.was_open was in
      (was_open, (undone.undone now).0 ∙ kept.committed was ∙ sym (settled was_open))

  stands_back : Stays old new → (o : Office) → StandsFor old o → StandsFor new o
  stands_back stays o stands = (λ now. let was = stays now in subst (λ db. IsKept db o) (sym was.1) (stands.0 was.0), stands.1)

  left_back : Survives old new (λ _. ⊥) → HasCleanDisk new → (x : Leftover) → LeftOf new x → LeftOf old x
  left_back survives h x (trees, may, by) = elim (survives.crash h trees may) [ inl kept ↦ (trees, kept, by) | inr none ↦ absurd none ]

  -- ---- a read

  module _ (undone : HasCleanDisk new → IsRolledBack mid new) (survives : Survives mid new (λ _. ⊥)) where
    clean_mid : HasCleanDisk new → HasCleanDisk mid
    clean_mid h = omega (arith, h, survives.clean)

    pub read_alone : {A : Type 0} (n m : ℕ) (r : Result A StoreFault) (Tells : Office → A → Type 0) → ReadsInside (inside_of begun n) (inside_of mid m) r Tells → Reads (standing_of old n) (standing_of new m) r Tells
    read_alone {A} n m (Ok x) Tells read =
        let whole_way : Survives old new (λ _. ⊥) = unseen_then old mid new (unseen_begun read.survives) survives in
        record {
          was_honest = λ h. omega (arith, h, whole_way.clean);
          falls = still_falls;
          value = λ h o stands. read.value (clean_mid h) inside_begun o (stands_begun o stands);
          kept = λ h. stands_back (back (read.kept (clean_mid h) inside_begun) (undone h));
          left = left_back whole_way;
          counted = read.counted;
        }
    read_alone {A} n m (Err fault) Tells read =
        let whole_way : Survives old new (λ _. ⊥) = unseen_then old mid new (unseen_begun read.survives) survives in
        record {
          was_honest = λ h. omega (arith, h, whole_way.clean);
          falls = still_falls;
          value = λ h. tt;
          kept = λ h. stands_back (back (read.kept (clean_mid h) inside_begun) (undone h));
          left = left_back whole_way;
          counted = read.counted;
        }

    -- ---- an edit that failed

    pub edit_undone : (edit : Edit) (n m : ℕ) (fault : StoreFault) (r : Result (Unit {0}) StoreFault) → IsErrAnd r (λ e. e ≡ fault) → EditsInside (inside_of begun n) (inside_of mid m) (Err fault) edit
        → Edits (standing_of old n) (standing_of new m) r edit
    edit_undone edit n m fault (Ok x) failed edited = absurd failed
    edit_undone edit n m fault (Err e) failed edited =
        let whole_way : Survives old new (λ _. ⊥) = unseen_then old mid new (unseen_begun edited.survives) survives in
        record {
          was_honest = λ h. omega (arith, h, whole_way.clean);
          falls = still_falls;
          made = λ h. tt;
          kept = λ h. stands_back (back (edited.kept (clean_mid h) inside_begun) (undone h));
          left_made = λ h. tt;
          left_kept = λ h o stands fits x left. inl (left_back whole_way h x left);
          counted = edited.counted ∙ ap (λ f. failures_after_fault f n) (sym failed);
        }

  -- ---- an edit that is committed

  module _ (edit : Edit) (n m : ℕ) (edited : EditsInside (inside_of begun n) (inside_of mid m) (Ok tt) edit) (survives : Survives mid new (λ db. db ≡ mid.now.trees)) where
    clean_made : HasCleanDisk new → HasCleanDisk mid
    clean_made h = omega (arith, h, survives.clean)

    made : HasCleanDisk new → (o : Office) → StandsFor old o → Fits o edit → IsKept mid.now (apply o edit)
    made h o stands fits = edited.made (clean_made h) inside_begun o (stands_begun o stands) fits

    was_clean : HasCleanDisk new → HasCleanDisk old
    was_clean h = let first : Survives old mid (λ _. ⊥) = unseen_begun edited.survives in omega (arith, h, survives.clean, first.clean)

    pub edit_committed : ((trees : Trees) → IsTrue new.is_open → new.may_leave trees → trees ≡ new.committed.trees) → (HasCleanDisk new → Shows mid new mid.now mid.now false)
        → Edits (standing_of old n) (standing_of new m) (Ok tt) edit
    edit_committed settled_new shows = record {
      was_honest = was_clean;
      falls = still_falls;
      made = λ h o stands fits. (λ _. subst (λ db. IsKept db (apply o edit)) (sym (shows h).now_is) (made h o stands fits), fits.sound);
      kept = λ h. tt;
      left_made = λ h o stands fits x left. left_alone h o stands fits x left;
      left_kept = λ h. tt;
      counted = edited.counted;
    }
      where
        left_alone : (h : HasCleanDisk new) (o : Office) → StandsFor old o → Fits o edit → (x : Leftover) → LeftOf new x → x ≡ whole (apply o edit)
        left_alone h o stands fits x (trees, may, by) =
            let is : trees ≡ mid.now.trees = settled_new trees (shows h).is_open may ∙ ap (λ (d : _). d.trees) (shows h).committed_is in
            only_left mid.now (apply o edit) x (kept_stands mid.now (apply o edit) (made h o stands fits)) (subst (λ t. LeftBy t x) is by)

    -- one whose commit failed is rolled back, and may still be found whole after a stop
    pub edit_uncommitted : (e : Error) (fault : StoreFault) (last : ℕ) → last ≡ failures_after_fault fault m → (HasCleanDisk new → FailsToCommit mid new e)
        → Edits (standing_of old n) (standing_of new last) (Err fault) edit
    edit_uncommitted e fault last counted fails = record {
      was_honest = was_clean;
      falls = still_falls;
      made = λ h. tt;
      kept = λ h. stands_back (back (edited.kept (clean_made h) inside_begun) (rolled h (fails h)));
      left_made = λ h. tt;
      left_kept = λ h o stands fits x left. left_either h o stands fits x left;
      counted = counted ∙ ap (failures_after_fault fault) edited.counted;
    }
      where
        rolled : HasCleanDisk new → FailsToCommit mid new e → IsRolledBack mid new
        rolled h (inl fails) = fails.3
        rolled h (inr ended) = let inside : IsTrue mid.in_transaction = edited.inside (clean_made h) inside_begun in absurd (true≢false (sym inside ∙ ended.1))

        left_either : (h : HasCleanDisk new) (o : Office) → StandsFor old o → Fits o edit → (x : Leftover) → LeftOf new x → LeftOf old x ⊎ (x ≡ whole (apply o edit))
        left_either h o stands fits x (trees, may, by) = elim (survives.crash h trees may) [
          | inl kept ↦ elim ((unseen_begun edited.survives).crash (clean_made h) trees kept) [ inl first ↦ inl (trees, first, by) | inr none ↦ absurd none ]
          | inr here ↦ inr (only_left mid.now (apply o edit) x (kept_stands mid.now (apply o edit) (made h o stands fits)) (subst (λ t. LeftBy t x) here by))
        ]

-- a call that finds the connection in a transaction does nothing
pub read_refused_alone : {A : Type 0} (s : State) (n m : ℕ) (fault : StoreFault) (Tells : Office → A → Type 0) → m ≡ failures_after_fault fault n → Reads {A = A} (standing_of s n) (standing_of s m) (Err fault) Tells
read_refused_alone s n m fault Tells counted = record { was_honest = λ h. h; falls = still_falls; value = λ h. tt; kept = λ h o stands. stands; left = λ h x left. left; counted = counted }

pub edit_refused_alone : (s : State) (n m : ℕ) (fault : StoreFault) (edit : Edit) → m ≡ failures_after_fault fault n → Edits (standing_of s n) (standing_of s m) (Err fault) edit
edit_refused_alone s n m fault edit counted = record { was_honest = λ h. h; falls = still_falls; made = λ h. tt; kept = λ h o stands. stands; left_made = λ h. tt; left_kept = λ h o stands fits x left. inl left; counted = counted }
