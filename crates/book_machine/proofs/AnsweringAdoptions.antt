-- Adopting a policy is answered by what it would do, and then by the edit.
use Rattle.book_machine.proofs.Common.{◌≡◌, ◌≢◌, ◌⊎◌, ◌↔◌, inl, inr, ℕ, ◌+◌, ◌<◌, ◌≤◌, Bool, true, false, ◌&&◌, cond, nat_lt, IsTrue, Option, Some, None, Result, Ok, Err, IsErrAnd, refl, sym, ap, ◌∙◌, subst, arith, lt-ltb, len, if◌then◌else◌, nat_le, Standing, one_more, IsSound, Fits, Office, MAX_BOOKS, LAST_NUMBER}
use Rattle.std.proofs.Common.{not}
use Rattle.std.proofs.lemmas.Bool.{false≢true, le-leb, ltb-true, leb-true}
use Rattle.book_policy_values.specs.Policies.{IsPolicy}
use Rattle.book_policy_values.specs.declared.parts.PolicyTables.{PolicyTables}
use Rattle.book_office_adopting.proofs.Samenesses.{same_office_is}
use Rattle.book_office.proofs.SoundAdoptions.{adopt_fits}
use Rattle.book_office_adopting.specs.Adopting.{adopt, adoption_of, taken_over}
use Rattle.book_office.specs.Keeping.{Reads, Edits, failures_after}
use Rattle.book_office_adopting.specs.Sameness.{same_office}
use Rattle.book_office.specs.declared.edits.Edit.TheVariants.{Adopt}
use Rattle.book_office.specs.declared.keepers.StoreFault.{StoreFault}
use Rattle.book_machine.proofs.Answering.{failed_once}
use Rattle.book_machine.specs.Adoptions.{Adopts, HasRoomFor, adopted_by, epoch_after}
use Rattle.book_machine.specs.Promises.{AdoptPromise}
use Rattle.book_machine.specs.declared.adoptions.AdoptFault.{AdoptFault}
use Rattle.book_machine.specs.declared.adoptions.AdoptFault.TheVariants.{Full, Unavailable}
use Rattle.book_machine.specs.declared.adoptions.Adopted.{Adopted}
use Rattle.book_office.proofs.Fallbacks.{then_falls}

module _ (t : PolicyTables) (o : Office) where
  abbrev after_all : Bool → Office
  after_all same = cond same (taken_over t o) (record (taken_over t o) { epoch = (taken_over t o).epoch + 1 })

  -- ---- what the answer tells

  same_books : (same : Bool) → len (after_all same).books ≡ len (taken_over t o).books
  same_books true = refl
  same_books false = refl

  told_epoch : (same : Bool) → epoch_after (not same) o.epoch ≡ (after_all same).epoch
  told_epoch true = refl
  told_epoch false = refl

  no_fixed : (n : ℕ) → n + 1 ≡ n → ⊥
  no_fixed n e = omega arith

  told_change : (same : Bool) → same_office o (taken_over t o) ≡ same → IsTrue (not same) ↔ (after_all same ≢ o)
  told_change true e = (λ is. absurd (false≢true is), λ other. absurd (other (sym (same_office_is o (taken_over t o) e))))
  told_change false e = (λ _ is. no_fixed o.epoch (ap (λ (p : Office). p.epoch) is), λ _. refl)

  abbrev answer : Bool → Option Adopted
  answer room = if room then Some (record { changed = (adoption_of t o).changed; epoch = epoch_after (adoption_of t o).changed o.epoch }) else None

  -- ---- there is room

  both : (epochs books : Bool) (adopted : Adopted) → answer (epochs && books) ≡ Some adopted
      → (epochs ≡ true) × (books ≡ true) × (adopted ≡ record { changed = (adoption_of t o).changed; epoch = epoch_after (adoption_of t o).changed o.epoch })
  both true true adopted e = (refl, refl, cc)
  both true false adopted e = absurd cc
  both false books adopted e = absurd cc

  pub room : (adopted : Adopted) → IsPolicy t → IsSound o → Some adopted ≡ adopted_by o.epoch (adoption_of t o) → HasRoomFor t o
  room adopted pol sound e =
      let h = both (nat_lt o.epoch LAST_NUMBER) (nat_le (len (taken_over t o).books) MAX_BOOKS) adopted (sym e) in
      let low : o.epoch < LAST_NUMBER = ltb-true _ _ h.0 in
      let few : len (taken_over t o).books ≤ MAX_BOOKS = leb-true _ _ h.1 in
      ((adopt_fits o t sound pol (subst (λ n. n ≤ MAX_BOOKS) (sym (same_books (same_office o (taken_over t o)))) few) low).sound, low)

  pub told : (adopted : Adopted) → HasRoomFor t o → Some adopted ≡ adopted_by o.epoch (adoption_of t o) → Adopts o t (Ok adopted) (adopt t o)
  told adopted has e =
      let h = both (nat_lt o.epoch LAST_NUMBER) (nat_le (len (taken_over t o).books) MAX_BOOKS) adopted (sym e) in
      let epoch = ap (λ (a : Adopted). a.epoch) h.2 ∙ told_epoch (same_office o (taken_over t o)) in
      let changed = subst (λ b. IsTrue b ↔ (adopt t o ≢ o)) (sym (ap (λ (a : Adopted). a.changed) h.2)) (told_change (same_office o (taken_over t o)) refl) in
      (has, refl, epoch, changed)

  pub fits : HasRoomFor t o → Fits o (Adopt t)
  fits has = record { possible = tt; sound = has.0 }

  -- ---- there is none

  not_none : None ≡ answer true → ⊥
  not_none e = absurd cc

  pub no_room : None ≡ adopted_by o.epoch (adoption_of t o) → HasRoomFor t o → ⊥
  no_room e has =
      let few : len (taken_over t o).books ≤ MAX_BOOKS = subst (λ n. n ≤ MAX_BOOKS) (same_books (same_office o (taken_over t o))) has.0.few in
      let epochs : nat_lt o.epoch LAST_NUMBER ≡ true = lt-ltb _ _ has.1 in
      let books : nat_le (len (taken_over t o).books) MAX_BOOKS ≡ true = le-leb _ _ few in
      not_none (e ∙ (λ i. answer (epochs i && books i)))

abbrev answered_by : AdoptFault → Result Adopted AdoptFault
answered_by e = Err e

-- a read failed once, and the answer is unavailable, or not at all
counted_told : {A : Type 0} (r : Result A StoreFault) (before after : ℕ) → after ≡ failures_after r before
    → (after ≡ before) ⊎ ((answered_by Unavailable ≡ Err Unavailable) × (after ≡ one_more before))
counted_told (Ok x) before after is = inl is
counted_told (Err fault) before after is = elim (failed_once fault before after is) [ inl same ↦ inl same | inr failed ↦ inr (refl, failed) ]

module _ (old new : Standing) (t : PolicyTables) where
  abbrev Tells : Office → Option Adopted → Type 0
  Tells o answer = answer ≡ adopted_by o.epoch (adoption_of t o)

  -- an error that is told as unavailable
  pub unavailable_on : (r : Result Adopted AdoptFault) → IsErrAnd r (λ e. e ≡ Unavailable) → AdoptPromise old new t (Err Unavailable) → AdoptPromise old new t r
  unavailable_on (Ok x) is p = absurd is
  unavailable_on (Err e) is p = subst (λ x. AdoptPromise old new t (Err x)) (sym is) p

  -- the keeper gave up, or memory was refused, before the edit
  pub answers_asked : (r : Result (Option Adopted) StoreFault) → Reads old new r Tells → AdoptPromise old new t (Err Unavailable)
  answers_asked r reads = record {
    was_honest = reads.was_honest;
    falls = reads.falls;
    adopted = λ h o stands. (o, reads.kept h o stands, refl);
    left = λ h o stands x left. inl (reads.left h x left);
    left_made = λ h. tt;
    counted = counted_told r old.failures new.failures reads.counted;
  }

  -- there is no room
  pub answers_full : (answer : Option Adopted) → answer ≡ None → Reads old new (Ok answer) Tells → AdoptPromise old new t (Err Full)
  answers_full answer is reads = record {
    was_honest = reads.was_honest;
    falls = reads.falls;
    adopted = λ h o stands. (o, reads.kept h o stands, (no_room t o (sym is ∙ reads.value h o stands), refl));
    left = λ h o stands x left. inl (reads.left h x left);
    left_made = λ h. tt;
    counted = inl reads.counted;
  }

  module _ (mid : Standing) (known : IsPolicy t) (answer : Option Adopted) (adopted : Adopted) (is : answer ≡ Some adopted) (reads : Reads old mid (Ok answer) Tells) (p : PolicyTables) (copied : p ≡ t) where
    has_room : mid.honest → (o : Office) → old.stands o → HasRoomFor t o
    has_room was o stands = room t o adopted known (old.sound o stands) (sym is ∙ reads.value was o stands)

    -- the policy was adopted
    pub answers_made : (u : Unit {0}) → Edits mid new (Ok u) (Adopt p) → AdoptPromise old new t (Ok adopted)
    answers_made u made =
        let edits : Edits mid new (Ok u) (Adopt t) = subst (λ q. Edits mid new (Ok u) (Adopt q)) copied made in record {
          was_honest = λ h. reads.was_honest (edits.was_honest h);
          falls = then_falls reads.falls edits.falls;
          adopted = λ h o stands.
              let was = edits.was_honest h in
              let has = has_room was o stands in
              (adopt t o, edits.made h o (reads.kept was o stands) (fits t o has), told t o adopted has (sym is ∙ reads.value was o stands));
          left = λ h o stands x left.
              let was = edits.was_honest h in
              let has = has_room was o stands in
              inr (has, edits.left_made h o (reads.kept was o stands) (fits t o has) x left);
          left_made = λ h o stands x left.
              let was = edits.was_honest h in
              edits.left_made h o (reads.kept was o stands) (fits t o (has_room was o stands)) x left;
          counted = inl (edits.counted ∙ reads.counted);
        }

    -- the keeper gave up
    pub answers_fault : (fault : StoreFault) → Edits mid new (Err fault) (Adopt p) → AdoptPromise old new t (Err Unavailable)
    answers_fault fault made =
        let edits : Edits mid new (Err fault) (Adopt t) = subst (λ q. Edits mid new (Err fault) (Adopt q)) copied made in record {
          was_honest = λ h. reads.was_honest (edits.was_honest h);
          falls = then_falls reads.falls edits.falls;
          adopted = λ h o stands. (o, edits.kept h o (reads.kept (edits.was_honest h) o stands), refl);
          left = λ h o stands x left.
              let was = edits.was_honest h in
              let has = has_room was o stands in
              elim (edits.left_kept h o (reads.kept was o stands) (fits t o has) x left) [
                | inl before ↦ inl (reads.left was x before)
                | inr made ↦ inr (has, made)
              ];
          left_made = λ h. tt;
          counted = elim (failed_once fault mid.failures new.failures edits.counted) [
            | inl same ↦ inl (same ∙ reads.counted)
            | inr failed ↦ inr (refl, failed ∙ ap one_more reads.counted)
          ];
        }
