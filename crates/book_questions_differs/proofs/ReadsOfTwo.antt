-- Readings of two keepers, one after the other.
use Rattle.book_questions_differs.proofs.Common.{◌≡◌, ◌∙◌, Ok, Err, Result, ap, refl, subst, sym, Compares, IsCounted, IsKept, Office, Reads, Standing}
use Rattle.std.proofs.Common.{inl, inr}
use Rattle.std.specs.Result.{IsErrAnd}
use Rattle.std.proofs.lemmas.Result.{IfOk-weaker}
use Rattle.book_office.specs.Keeping.{failures_after}
use Rattle.book_office.specs.declared.keepers.StoreFault.{StoreFault}
use Rattle.book_office.specs.declared.keepers.StoreFault.TheVariants.{Memory}
use Rattle.book_office.proofs.Fallbacks.{still_falls, then_falls}

-- ---- one keeper
as_it_is : (s : Standing) → IsKept s s
as_it_is s = record { was_honest = λ h. h; falls = still_falls; kept = λ h o stands. stands; left = λ h x left. left }

kept_then : (a b c : Standing) → IsKept a b → IsKept b c → IsKept a c
kept_then a b c first second = record {
  was_honest = λ h. first.was_honest (second.was_honest h);
  falls = then_falls first.falls second.falls;
  kept = λ h o stands. second.kept h o (first.kept (second.was_honest h) o stands);
  left = λ h x left. first.left (second.was_honest h) x (second.left h x left);
}

kept_by : {A : Type 0} (a b : Standing) (r : Result A StoreFault) (T : Office → A → Type 0) → Reads a b r T → IsKept a b
kept_by a b r T read = record { was_honest = read.was_honest; falls = read.falls; kept = read.kept; left = read.left }

-- ---- a reading of one of the two
pub of_first : {A : Type 0} (s s2 t : Standing) (r : Result A StoreFault) (T : Office → A → Type 0) → Reads s s2 r T → Compares s s2 t t r (λ o p x. T o x)
of_first {A} s s2 t r T read = record {
  first_kept = kept_by s s2 r T read;
  last_kept = as_it_is t;
  value = λ h k. IfOk-weaker r (λ x. (o : Office) → s.stands o → T o x) (λ x. (o p : Office) → s.stands o → t.stands p → T o x) (λ x tells o p so tp. tells o so) (read.value h);
  counted = inl (read.counted, refl);
}

pub of_last : {A : Type 0} (s t t2 : Standing) (r : Result A StoreFault) (T : Office → A → Type 0) → Reads t t2 r T → Compares s s t t2 r (λ o p x. T p x)
of_last {A} s t t2 r T read = record {
  first_kept = as_it_is s;
  last_kept = kept_by t t2 r T read;
  value = λ h k. IfOk-weaker r (λ x. (p : Office) → t.stands p → T p x) (λ x. (o p : Office) → s.stands o → t.stands p → T p x) (λ x tells o p so tp. tells p tp) (read.value k);
  counted = inr (refl, read.counted);
}

-- ---- both
-- nothing was read
pub nothing_read : {A : Type 0} (s t : Standing) (x : A) (T : Office → Office → A → Type 0)
    → (s.honest → t.honest → (o p : Office) → s.stands o → t.stands p → T o p x) → Compares s s t t (Ok x) T
nothing_read s t x T tells = record { first_kept = as_it_is s; last_kept = as_it_is t; value = tells; counted = inl (refl, refl) }

-- a reading that answered left the counts as they were
unmoved : {A : Type 0} (s s2 t t2 : Standing) (x : A) → IsCounted s s2 t t2 (Ok x) → (s2.failures ≡ s.failures) × (t2.failures ≡ t.failures)
unmoved s s2 t t2 x (inl e) = e
unmoved s s2 t t2 x (inr e) = e

counted_then : {B : Type 0} (s0 s1 s2 t0 t1 t2 : Standing) (r : Result B StoreFault) → (s1.failures ≡ s0.failures) × (t1.failures ≡ t0.failures)
    → IsCounted s1 s2 t1 t2 r → IsCounted s0 s2 t0 t2 r
counted_then s0 s1 s2 t0 t1 t2 r (e, f) (inl (a, b)) = inl (a ∙ ap (failures_after r) e, b ∙ f)
counted_then s0 s1 s2 t0 t1 t2 r (e, f) (inr (a, b)) = inr (a ∙ e, b ∙ ap (failures_after r) f)

-- a reading after one that answered
pub compared_then : {A B : Type 0} (s0 s1 s2 t0 t1 t2 : Standing) (x : A) (r : Result B StoreFault) (T : Office → Office → A → Type 0) (U V : Office → Office → B → Type 0)
    → Compares s0 s1 t0 t1 (Ok x) T → Compares s1 s2 t1 t2 r U
    → ((o p : Office) → s0.stands o → t0.stands p → T o p x → (y : B) → U o p y → V o p y) → Compares s0 s2 t0 t2 r V
compared_then {A} {B} s0 s1 s2 t0 t1 t2 x r T U V first second both = record {
  first_kept = kept_then s0 s1 s2 first.first_kept second.first_kept;
  last_kept = kept_then t0 t1 t2 first.last_kept second.last_kept;
  value = λ h k.
      let sh = second.first_kept.was_honest h in
      let th = second.last_kept.was_honest k in
      IfOk-weaker r (λ y. (o p : Office) → s1.stands o → t1.stands p → U o p y) (λ y. (o p : Office) → s0.stands o → t0.stands p → V o p y)
      (λ y tells o p so tp. both o p so tp (first.value sh th o p so tp) y (tells o p (first.first_kept.kept sh o so) (first.last_kept.kept th p tp))) (second.value h k);
  counted = counted_then s0 s1 s2 t0 t1 t2 r (unmoved s0 s1 t0 t1 x first.counted) second.counted;
}

-- what is told, said otherwise
pub compared_as : {A B : Type 0} (s s2 t t2 : Standing) (x : A) (y : B) (T : Office → Office → A → Type 0) (V : Office → Office → B → Type 0)
    → Compares s s2 t t2 (Ok x) T → ((o p : Office) → s.stands o → t.stands p → T o p x → V o p y) → Compares s s2 t t2 (Ok y) V
compared_as {A} {B} s s2 t t2 x y T V first both = record {
  first_kept = first.first_kept;
  last_kept = first.last_kept;
  value = λ h k o p so tp. both o p so tp (first.value h k o p so tp);
  counted = inl (unmoved s s2 t t2 x first.counted);
}

-- want of memory after a reading
pub compared_refused : {A B : Type 0} (s s2 t t2 : Standing) (x : A) (r : Result B StoreFault) (T : Office → Office → A → Type 0) (V : Office → Office → B → Type 0)
    → IsErrAnd r (λ e. e ≡ Memory) → Compares s s2 t t2 (Ok x) T → Compares s s2 t t2 r V
compared_refused s s2 t t2 x (Ok y) T V is first = absurd is
compared_refused {A} {B} s s2 t t2 x (Err e) T V is first = subst (λ f. Compares {A = B} s s2 t t2 (Err f) V) (sym is) (record {
  first_kept = first.first_kept;
  last_kept = first.last_kept;
  value = λ h k. tt;
  counted = inl (unmoved s s2 t t2 x first.counted);
})

-- the counts where a reading failed do not rest on what it would tell
failed_alike : (B C : Type 0) (s s2 t t2 : Standing) (f : StoreFault) → IsCounted {A = B} s s2 t t2 (Err f) → IsCounted {A = C} s s2 t t2 (Err f)
failed_alike B C s s2 t t2 f (inl e) = inl e
failed_alike B C s s2 t t2 f (inr e) = inr e

-- a reading that failed after one that answered
pub compared_failed : {A B C : Type 0} (s0 s1 s2 t0 t1 t2 : Standing) (x : A) (f : StoreFault) (r : Result C StoreFault) (T : Office → Office → A → Type 0)
    (U : Office → Office → B → Type 0) (V : Office → Office → C → Type 0)
    → IsErrAnd r (λ e. e ≡ f) → Compares s0 s1 t0 t1 (Ok x) T → Compares {A = B} s1 s2 t1 t2 (Err f) U → Compares s0 s2 t0 t2 r V
compared_failed s0 s1 s2 t0 t1 t2 x f (Ok y) T U V is first second = absurd is
compared_failed {A} {B} {C} s0 s1 s2 t0 t1 t2 x f (Err e) T U V is first second = subst (λ g. Compares {A = C} s0 s2 t0 t2 (Err g) V) (sym is) (record {
  first_kept = kept_then s0 s1 s2 first.first_kept second.first_kept;
  last_kept = kept_then t0 t1 t2 first.last_kept second.last_kept;
  value = λ h k. tt;
  counted = failed_alike B C s0 s2 t0 t2 f (counted_then {B = B} s0 s1 s2 t0 t1 t2 (Err f) (unmoved s0 s1 t0 t1 x first.counted) second.counted);
})

-- ---- what both readings tell
pub then_first : {A B : Type 0} (s0 s1 s2 t0 t1 : Standing) (x : A) (y : B) (T : Office → Office → A → Type 0) (U : Office → B → Type 0)
    → Compares s0 s1 t0 t1 (Ok x) T → Reads s1 s2 (Ok y) U → Compares s0 s2 t0 t1 (Ok y) (λ o p z. T o p x × U o z)
then_first s0 s1 s2 t0 t1 x y T U first read =
    compared_then s0 s1 s2 t0 t1 t1 x (Ok y) T (λ o p z. U o z) (λ o p z. T o p x × U o z) first (of_first s1 s2 t1 (Ok y) U read) (λ o p so tp t z u. (t, u))

pub then_last : {A B : Type 0} (s0 s1 t0 t1 t2 : Standing) (x : A) (y : B) (T : Office → Office → A → Type 0) (U : Office → B → Type 0)
    → Compares s0 s1 t0 t1 (Ok x) T → Reads t1 t2 (Ok y) U → Compares s0 s1 t0 t2 (Ok y) (λ o p z. T o p x × U p z)
then_last s0 s1 t0 t1 t2 x y T U first read =
    compared_then s0 s1 s1 t0 t1 t2 x (Ok y) T (λ o p z. U p z) (λ o p z. T o p x × U p z) first (of_last s1 t1 t2 (Ok y) U read) (λ o p so tp t z u. (t, u))

pub then_both : {A B : Type 0} (s0 s1 s2 t0 t1 t2 : Standing) (x : A) (y : B) (T : Office → Office → A → Type 0) (U : Office → Office → B → Type 0)
    → Compares s0 s1 t0 t1 (Ok x) T → Compares s1 s2 t1 t2 (Ok y) U → Compares s0 s2 t0 t2 (Ok y) (λ o p z. T o p x × U o p z)
then_both s0 s1 s2 t0 t1 t2 x y T U first second =
    compared_then s0 s1 s2 t0 t1 t2 x (Ok y) T U (λ o p z. T o p x × U o p z) first second (λ o p so tp t z u. (t, u))

-- ---- a reading that failed
nothing : (s t : Standing) → Compares s s t t (Ok (tt {0})) (λ o p x. Unit {0})
nothing s t = nothing_read s t tt (λ o p x. Unit {0}) (λ h k o p so tp. tt)

pub both_failed : {B C : Type 0} (s s2 t t2 : Standing) (f : StoreFault) (r : Result C StoreFault) (U : Office → Office → B → Type 0) (V : Office → Office → C → Type 0)
    → IsErrAnd r (λ e. e ≡ f) → Compares {A = B} s s2 t t2 (Err f) U → Compares s s2 t t2 r V
both_failed s s2 t t2 f r U V is failed = compared_failed s s s2 t t t2 tt f r (λ o p x. Unit {0}) U V is (nothing s t) failed

pub first_failed : {B C : Type 0} (s s2 t : Standing) (f : StoreFault) (r : Result C StoreFault) (U : Office → B → Type 0) (V : Office → Office → C → Type 0)
    → IsErrAnd r (λ e. e ≡ f) → Reads {A = B} s s2 (Err f) U → Compares s s2 t t r V
first_failed s s2 t f r U V is failed = both_failed s s2 t t f r (λ o p x. U o x) V is (of_first s s2 t (Err f) U failed)

pub then_first_failed : {A B C : Type 0} (s0 s1 s2 t0 t1 : Standing) (x : A) (f : StoreFault) (r : Result C StoreFault) (T : Office → Office → A → Type 0)
    (U : Office → B → Type 0) (V : Office → Office → C → Type 0)
    → IsErrAnd r (λ e. e ≡ f) → Compares s0 s1 t0 t1 (Ok x) T → Reads {A = B} s1 s2 (Err f) U → Compares s0 s2 t0 t1 r V
then_first_failed s0 s1 s2 t0 t1 x f r T U V is first failed = compared_failed s0 s1 s2 t0 t1 t1 x f r T (λ o p z. U o z) V is first (of_first s1 s2 t1 (Err f) U failed)

pub then_last_failed : {A B C : Type 0} (s0 s1 t0 t1 t2 : Standing) (x : A) (f : StoreFault) (r : Result C StoreFault) (T : Office → Office → A → Type 0)
    (U : Office → B → Type 0) (V : Office → Office → C → Type 0)
    → IsErrAnd r (λ e. e ≡ f) → Compares s0 s1 t0 t1 (Ok x) T → Reads {A = B} t1 t2 (Err f) U → Compares s0 s1 t0 t2 r V
then_last_failed s0 s1 t0 t1 t2 x f r T U V is first failed = compared_failed s0 s1 s1 t0 t1 t2 x f r T (λ o p z. U p z) V is first (of_last s1 t1 t2 (Err f) U failed)

-- want of memory before anything was read
pub refused_first : {C : Type 0} (s t : Standing) (r : Result C StoreFault) (V : Office → Office → C → Type 0) → IsErrAnd r (λ e. e ≡ Memory) → Compares s s t t r V
refused_first s t r V is = compared_refused s s t t tt r (λ o p x. Unit {0}) V is (nothing s t)
