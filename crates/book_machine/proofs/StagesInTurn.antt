-- Stages one after the other.
use Rattle.book_machine.proofs.Common.{◌≡◌, ℕ, Result, Ok, Err, IsErrAnd, inl, inr, refl, sym, subst, Standing, Office, Asks, Meets, Counted, ◌>>=◌, Refusal}
use Rattle.book_office.proofs.Fallbacks.{still_falls, then_falls}

-- a result that is the stage's
pub meets_same : {A : Type 0} (r stage : Result A Refusal) → r ≡ stage → Meets r stage
meets_same (Ok x) stage same = sym same
meets_same (Err e) stage same = inr (sym same)

-- where a stage refuses, what follows it is not asked
pub first_refuses : {A B : Type 0} (stage : Result A Refusal) (rest : A → Result B Refusal) (e : Refusal) → Meets (Err e) stage → Meets (Err e) (stage >>= rest)
first_refuses stage rest e (inl unavailable) = inl unavailable
first_refuses stage rest e (inr is) = inr (subst (λ (s : Result _ Refusal). (s >>= rest) ≡ Err e) (sym is) refl)

-- where a stage answered, what follows it is asked
pub second_refuses : {A B : Type 0} (stage : Result A Refusal) (rest : A → Result B Refusal) (x : A) (e : Refusal) → stage ≡ Ok x → Meets (Err e) (rest x) → Meets (Err e) (stage >>= rest)
second_refuses stage rest x e answered refuses = subst (λ (s : Result _ Refusal). Meets (Err e) (s >>= rest)) (sym answered) refuses

pub refused_on : {A : Type 0} (r : Result A Refusal) (e : Refusal) (P : Result A Refusal → Type 0) → IsErrAnd r (λ x. x ≡ e) → P (Err e) → P r
refused_on (Ok x) e P is p = absurd is
refused_on (Err x) e P is p = subst (λ y. P (Err y)) (sym is) p

-- a count that stays
pub counted_same : {A : Type 0} (r : Result A Refusal) (n : ℕ) → Counted r n n
counted_same (Ok x) n = refl
counted_same (Err e) n = inl refl

-- a count that stayed before
pub counted_after : {A : Type 0} (r : Result A Refusal) (k m n : ℕ) → Counted r m n → m ≡ k → Counted r k n
counted_after r k m n counted same = subst (λ before. Counted r before n) same counted

-- a stage that asks no keeper
pub asks_nothing : {A : Type 0} (standing : Standing) (r : Result A Refusal) (T : Office → Result A Refusal → Type 0)
    → (standing.honest → (o : Office) → standing.stands o → T o r) → Asks standing standing r T
asks_nothing standing r T tells = record {
  was_honest = λ h. h;
  falls = still_falls;
  tells = tells;
  kept = λ h o stands. stands;
  left = λ h x left. left;
  counted = counted_same r _;
}

-- a stage that refuses as one that it asked
pub asks_refused : {A B : Type 0} (old new : Standing) (e : Refusal) (r : Result B Refusal) (T : Office → Result A Refusal → Type 0) (U : Office → Result B Refusal → Type 0)
    → Asks old new (Err e) T → IsErrAnd r (λ x. x ≡ e) → ((o : Office) → old.stands o → T o (Err e) → U o (Err e)) → Asks old new r U
asks_refused {A} {B} old new e (Ok x) T U asked is both = absurd is
asks_refused {A} {B} old new e (Err x) T U asked is both = record {
  was_honest = asked.was_honest;
  falls = asked.falls;
  tells = λ h o stands. subst (λ y. U o (Err y)) (sym is) (both o stands (asked.tells h o stands));
  kept = asked.kept;
  left = asked.left;
  counted = subst (λ y. Counted {A = B} (Err y) old.failures new.failures) (sym is) asked.counted;
}

-- a stage after one that answered
pub asks_then : {A B : Type 0} (old mid new : Standing) (x : A) (r : Result B Refusal)
    (T : Office → Result A Refusal → Type 0) (U V : Office → Result B Refusal → Type 0)
    → Asks old mid (Ok x) T → Asks mid new r U
    → ((o : Office) → old.stands o → T o (Ok x) → U o r → V o r) → Asks old new r V
asks_then old mid new x r T U V first second both = record {
  was_honest = λ h. first.was_honest (second.was_honest h);
  falls = then_falls first.falls second.falls;
  tells = λ h o stands.
      let was = second.was_honest h in
      both o stands (first.tells was o stands) (second.tells h o (first.kept was o stands));
  kept = λ h o stands. let was = second.was_honest h in second.kept h o (first.kept was o stands);
  left = λ h x left. first.left (second.was_honest h) x (second.left h x left);
  counted = counted_after r old.failures mid.failures new.failures second.counted first.counted;
}
