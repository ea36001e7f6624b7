-- One question to the keeper after the other, and what the answers so far tell.
use Rattle.book_machine.proofs.Common.{◌≡◌, ℕ, Result, Ok, Err, IsErrAnd, sym, subst, Standing, Office, Asks, Counted, Refusal}
use Rattle.book_office.specs.Keeping.{Reads}
use Rattle.book_machine.proofs.StagesInTurn.{asks_nothing}
use Rattle.book_office.proofs.Fallbacks.{then_falls}

-- the questions so far have been answered, and the answers tell this
abbrev pub HasAsked : Standing → Standing → (Office → Type 0) → Type 0
HasAsked old new Told = Asks {A = Unit {0}} old new (Ok tt) (λ o r. Told o)

pub none_asked : (standing : Standing) (Told : Office → Type 0) → ((o : Office) → Told o) → HasAsked standing standing Told
none_asked standing Told told = asks_nothing standing (Ok tt) (λ o r. Told o) (λ h o stands. told o)

pub one_more_asked : {B : Type 0} (old mid new : Standing) (x : B) (Told More : Office → Type 0) (T : Office → Result B Refusal → Type 0)
    → HasAsked old mid Told → Asks mid new (Ok x) T → ((o : Office) → Told o → T o (Ok x) → More o) → HasAsked old new More
one_more_asked old mid new x Told More T first second both = record {
  was_honest = λ h. first.was_honest (second.was_honest h);
  falls = then_falls first.falls second.falls;
  tells = λ h o stands.
      let was = second.was_honest h in
      both o (first.tells was o stands) (second.tells h o (first.kept was o stands));
  kept = λ h o stands. let was = second.was_honest h in second.kept h o (first.kept was o stands);
  left = λ h x left. first.left (second.was_honest h) x (second.left h x left);
  counted = subst (λ n. n ≡ old.failures) (sym second.counted) first.counted;
}

-- one read of the keeper, and what is made of its answer at the Offices for which it stands
pub asks_standing_read : {A B : Type 0} (old new : Standing) (x : A) (y : B) (T : Office → A → Type 0) (U : Office → Result B Refusal → Type 0)
    → Reads old new (Ok x) T → ((o : Office) → old.stands o → T o x → U o (Ok y)) → Asks old new (Ok y) U
asks_standing_read old new x y T U read both = record {
  was_honest = read.was_honest;
  falls = read.falls;
  tells = λ h o stands. both o stands (read.value h o stands);
  kept = read.kept;
  left = read.left;
  counted = read.counted;
}

-- the same at every Office
pub asks_read : {A B : Type 0} (old new : Standing) (x : A) (y : B) (T : Office → A → Type 0) (U : Office → Result B Refusal → Type 0)
    → Reads old new (Ok x) T → ((o : Office) → T o x → U o (Ok y)) → Asks old new (Ok y) U
asks_read old new x y T U read both = asks_standing_read old new x y T U read (λ o stands. both o)

-- the answers so far, and then one answer of the whole
pub asked_then : {B : Type 0} (old new : Standing) (r : Result B Refusal) (Told : Office → Type 0) (U : Office → Result B Refusal → Type 0)
    → HasAsked old new Told → ((n : ℕ) → Counted r n n) → ((o : Office) → Told o → U o r) → Asks old new r U
asked_then old new r Told U asked same both = record {
  was_honest = asked.was_honest;
  falls = asked.falls;
  tells = λ h o stands. both o (asked.tells h o stands);
  kept = asked.kept;
  left = asked.left;
  counted = subst (λ n. Counted r old.failures n) (sym asked.counted) (same old.failures);
}

pub asked_first : {A : Type 0} (old new : Standing) (x : A) (T : Office → Result A Refusal → Type 0) → Asks old new (Ok x) T → HasAsked old new (λ o. T o (Ok x))
asked_first old new x T asked = record {
  was_honest = asked.was_honest;
  falls = asked.falls;
  tells = asked.tells;
  kept = asked.kept;
  left = asked.left;
  counted = asked.counted;
}

pub asked_refused : {A B : Type 0} (old mid new : Standing) (e : Refusal) (r : Result B Refusal) (Told : Office → Type 0) (T : Office → Result A Refusal → Type 0) (U : Office → Result B Refusal → Type 0)
    → HasAsked old mid Told → Asks mid new (Err e) T → IsErrAnd r (λ x. x ≡ e) → ((o : Office) → Told o → T o (Err e) → U o (Err e)) → Asks old new r U
asked_refused {A} {B} old mid new e (Ok x) Told T U first second is both = absurd is
asked_refused {A} {B} old mid new e (Err x) Told T U first second is both = record {
  was_honest = λ h. first.was_honest (second.was_honest h);
  falls = then_falls first.falls second.falls;
  tells = λ h o stands.
      let was = second.was_honest h in
      subst (λ y. U o (Err y)) (sym is) (both o (first.tells was o stands) (second.tells h o (first.kept was o stands)));
  kept = λ h o stands. let was = second.was_honest h in second.kept h o (first.kept was o stands);
  left = λ h x left. first.left (second.was_honest h) x (second.left h x left);
  counted = subst (λ y. Counted {A = B} (Err y) old.failures new.failures) (sym is) (subst (λ n. Counted {A = A} (Err e) n new.failures) first.counted second.counted);
}
