-- An edit that rests on what was read before it, in the same transaction.
use Rattle.book_tables.proofs.Common.{◌≡◌, ℕ, Result, Ok, Err, sym, ap, subst, ◌∙◌, IsTrue, State, HasCleanDisk, Survives, Office, apply, StoreFault, failures_after_fault, Rows, rows_of, Makes, Keeps, Looks, Inside, inside_of, ReadsInside, EditsInside, Gives, IsKept, StandsFor, unseen_then}
use Rattle.std.proofs.Common.{OnOk, IsErrAnd}
use Rattle.book_office.specs.declared.edits.Edit.{Edit}
use Rattle.book_office.specs.Keeping.{failures_after}
use Rattle.book_office.specs.Sound.{Fits}
use Rattle.book_tables_rows.specs.Steps.{Change}
use Rattle.book_tables.specs.Reach.{HoldsReach}
use Rattle.book_tables.proofs.Acting.{Given, nodes_of}
use Rattle.book_tables.proofs.Readings.{clean_then, inside_then, kept_then, stood_then}

-- rows that give an Office which the edit fits, and of which something is known, are rows that the change fits, and give the edited Office afterwards
pub record GivesKnown (edit : Edit) (change : Change) (Known : Office → Type 0) : Type 0 where
  pub fits : (rows : Rows) (o : Office) → Given rows o edit → change.Fits rows
  pub gives : (rows after : Rows) (o : Office) → Given rows o edit → Known o → change.Makes rows after → Gives after (apply o edit)
  pub reach : (rows after : Rows) (o : Office) → Given rows o edit → Known o → change.Makes rows after → HoldsReach rows.reach o.pairs → HoldsReach after.reach (apply o edit).pairs

module _ (edit : Edit) {A : Type 0} (a b : Inside) (x : A) (Tells : Office → A → Type 0) (first : ReadsInside a b (Ok x) Tells) (new : State) (survives : Survives b.state new (λ _. ⊥)) (kept : Keeps b.state new) where
  module _ (change : Change) (Known : Office → Type 0) (edited : GivesKnown edit change Known) (known : (o : Office) → Tells o x → Known o) where
    stands_edited : (o : Office) → Makes b.state new change → StandsFor b.state o → Known o → Fits o edit → IsKept new.now (apply o edit)
    stands_edited o m stands knows fits =
        let st = stands.0 m.was_open in
        let given : Given (rows_of b.state.now.trees) o edit = record { nodes = nodes_of b.state.now st.book; gives = st.gives; sound = st.sound; fits = fits } in
        let done = m.made st.book (edited.fits (rows_of b.state.now.trees) o given) in
        record {
          book = done.0;
          gives = edited.gives (rows_of b.state.now.trees) (rows_of new.now.trees) o given knows done.1;
          sound = fits.sound;
          reach = edited.reach (rows_of b.state.now.trees) (rows_of new.now.trees) o given knows done.1 st.reach;
        }

    pub read_then_edited : (n : ℕ) (r : Result (Unit {0}) StoreFault) → n ≡ failures_after r b.failures → (HasCleanDisk new → IsTrue b.state.in_transaction → OnOk r (Makes b.state new change))
        → EditsInside a (inside_of new n) r edit
    read_then_edited n (Ok tt) counted makes = record {
      survives = unseen_then a.state b.state new first.survives survives;
      kept = kept_then a b x Tells first new survives kept;
      inside = λ h inside. (makes h (inside_then a b x Tells first new survives kept h inside)).inside;
      made = λ h inside o stands fits.
          stands_edited o (makes h (inside_then a b x Tells first new survives kept h inside)) (stood_then a b x Tells first new survives kept h inside o stands)
          (known o (first.value (clean_then a b x Tells first new survives kept h) inside o stands)) fits;
      counted = counted ∙ first.counted;
    }
    read_then_edited n (Err fault) counted makes = record {
      survives = unseen_then a.state b.state new first.survives survives;
      kept = kept_then a b x Tells first new survives kept;
      inside = λ h _. tt;
      made = λ h _. tt;
      counted = counted ∙ ap (failures_after_fault fault) first.counted;
    }

  -- an edit that changes nothing, where nothing is written
  pub read_then_rested : ((o : Office) → Tells o x → apply o edit ≡ o) → (n : ℕ) (r : Result (Unit {0}) StoreFault) → n ≡ failures_after r b.failures → (HasCleanDisk new → OnOk r (IsTrue b.state.is_open × Looks b.state new))
      → EditsInside a (inside_of new n) r edit
  read_then_rested unchanged n (Ok tt) counted rested = record {
    survives = unseen_then a.state b.state new first.survives survives;
    kept = kept_then a b x Tells first new survives kept;
    inside = λ h inside. (rested h).1.mode ∙ inside_then a b x Tells first new survives kept h inside;
    made = λ h inside o stands fits.
        let st = (stood_then a b x Tells first new survives kept h inside o stands).0 (rested h).0 in
        subst (IsKept new.now) (sym (unchanged o (first.value (clean_then a b x Tells first new survives kept h) inside o stands))) (subst (λ db. IsKept db o) (sym ((rested h).1.same st.book)) st);
    counted = counted ∙ first.counted;
  }
  read_then_rested unchanged n (Err fault) counted rested = record {
    survives = unseen_then a.state b.state new first.survives survives;
    kept = kept_then a b x Tells first new survives kept;
    inside = λ h _. tt;
    made = λ h _. tt;
    counted = counted ∙ ap (failures_after_fault fault) first.counted;
  }

-- where a read failed no edit is made
pub read_fails_edit : {B : Type 0} (a c : Inside) (fault : StoreFault) (r : Result (Unit {0}) StoreFault) (edit : Edit) (V : Office → B → Type 0)
    → IsErrAnd r (λ e. e ≡ fault) → ReadsInside {A = B} a c (Err fault) V → EditsInside a c r edit
read_fails_edit {B} a c fault (Ok x) edit V is read = absurd is
read_fails_edit {B} a c fault (Err e) edit V is read = record {
  survives = read.survives;
  kept = read.kept;
  inside = λ h _. tt;
  made = λ h _. tt;
  counted = read.counted ∙ ap (λ f. failures_after_fault f a.failures) (sym is);
}
