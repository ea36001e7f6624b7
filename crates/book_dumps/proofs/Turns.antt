-- Reads and writes one after the other.
use Rattle.book_dumps.proofs.Common.{◌≡◌, ◌≢◌, ℕ, ◌+◌, List, [], ◌∷◌, ◌++◌, length, refl, sym, ap, subst, ◌∙◌, arith, append_assoc, Ok, Err, Result, Option, Office, Standing, Reads}
use Rattle.std.proofs.Common.{OnErr, length-append}
use Rattle.std.specs.Result.{OnOk, IfErr, IsErrAnd}
use Rattle.std.specs.Io.KnownBytes.{Appends}
use Rattle.book_office_audit.proofs.ReadsInTurn.{reads_failed as reads_stopped, reads_refused as reads_without}
use Rattle.std.specs.List.{concat}
use Rattle.std.proofs.KnownBytes.{Appends-trans, Appends-nil}
use Rattle.std.proofs.lemmas.List.Folds.{concat-append}
use Rattle.book_office.specs.declared.keepers.StoreFault.{StoreFault}
use Rattle.book_office.specs.declared.keepers.StoreFault.TheVariants as store
use Rattle.book_dumps.specs.Dumps.{counted, dump_text, last_line, lines_of}
use Rattle.book_dumps.specs.Writing.{Dumps, IsCut, IsFront, IsTold, Puts, Writes, failures_after_write}
use Rattle.book_dumps.specs.declared.faults.DumpFault.{DumpFault}
use Rattle.book_dumps.specs.declared.faults.DumpFault.TheVariants.{Store, Write}
use Rattle.book_office.proofs.Fallbacks.{still_falls, then_falls}

ok_map : {A E : Type 0} (r : Result A E) (P Q : Type 0) → (P → Q) → OnOk r P → OnOk r Q
ok_map (Ok x) P Q f p = f p
ok_map (Err e) P Q f p = tt

err_map : {A E : Type 0} (r : Result A E) (P Q : Type 0) → (P → Q) → OnErr r P → OnErr r Q
err_map (Ok x) P Q f p = tt
err_map (Err e) P Q f p = f p

-- a count that is counted on
counted_on : (a b c m n : ℕ) → b ≡ counted (a + m) → (b ≡ counted b → c ≡ counted (b + n)) → c ≡ counted (a + (m + n))
counted_on a b c m n p q = let r = q (omega (arith, p)) in omega (arith, p, r)

told_then : (h0 h1 h2 : Option (List ℕ)) (c0 c1 c2 : ℕ) (a b m : List (List ℕ)) → a ++ b ≡ m → IsTold h0 h1 c0 c1 a → IsTold h1 h2 c1 c2 b → IsTold h0 h2 c0 c2 m
told_then h0 h1 h2 c0 c1 c2 a b m e p q = subst (IsTold h0 h2 c0 c2) e (record {
  text = subst (Appends h0 h2) (sym (concat-append a b)) (Appends-trans h0 h1 h2 (concat a) (concat b) p.text q.text);
  count = λ few. counted_on c0 c1 c2 (length a) (length b) (p.count few) q.count ∙ ap (λ n. counted (c0 + n)) (sym (length-append a b));
})

-- a beginning of what comes after a text that was appended
front_then : (h0 h1 h2 : Option (List ℕ)) (a b m : List (List ℕ)) → a ++ b ≡ m → Appends h0 h1 (concat a) → IsFront h1 h2 (concat b) → IsFront h0 h2 (concat m)
front_then h0 h1 h2 a b m e p q = (
  concat a ++ q.0,
  q.1,
  ap concat (sym e) ∙ concat-append a b ∙ ap (λ t. concat a ++ t) q.2 ∙ sym (append_assoc (concat a) q.0 q.1),
  Appends-trans h0 h1 h2 (concat a) q.0 p q.3,
)

-- a beginning of a part is one of the whole
front_more : (h0 h1 : Option (List ℕ)) (a b m : List (List ℕ)) → a ++ b ≡ m → IsFront h0 h1 (concat a) → IsFront h0 h1 (concat m)
front_more h0 h1 a b m e q = (
  q.0,
  q.1 ++ concat b,
  ap concat (sym e) ∙ concat-append a b ∙ ap (λ t. t ++ concat b) q.2 ∙ append_assoc q.0 q.1 (concat b),
  q.3,
)

-- writes after others
pub writes_then : (S0 S1 S2 : Standing) (h0 h1 h2 : Option (List ℕ)) (c0 c1 c2 : ℕ) (x : Unit {0}) (r : Result (Unit {0}) DumpFault) (L1 L2 M : Office → List (List ℕ))
    → Writes S0 S1 h0 h1 c0 c1 (Ok x) L1 → Writes S1 S2 h1 h2 c1 c2 r L2 → ((o : Office) → S0.stands o → L1 o ++ L2 o ≡ M o)
    → Writes S0 S2 h0 h2 c0 c2 r M
writes_then S0 S1 S2 h0 h1 h2 c0 c1 c2 x r L1 L2 M first second both = record {
  was_honest = λ h. first.was_honest (second.was_honest h);
  falls = then_falls first.falls second.falls;
  told = λ h. let was = second.was_honest h in
      ok_map r ((o : Office) → S1.stands o → IsTold h1 h2 c1 c2 (L2 o)) ((o : Office) → S0.stands o → IsTold h0 h2 c0 c2 (M o))
      (λ told o stands. told_then h0 h1 h2 c0 c1 c2 (L1 o) (L2 o) (M o) (both o stands) (first.told was o stands) (told o (first.kept was o stands))) (second.told h);
  front = λ h. let was = second.was_honest h in
      err_map r ((o : Office) → S1.stands o → IsFront h1 h2 (concat (L2 o))) ((o : Office) → S0.stands o → IsFront h0 h2 (concat (M o)))
      (λ front o stands. front_then h0 h1 h2 (L1 o) (L2 o) (M o) (both o stands) (first.told was o stands).text (front o (first.kept was o stands))) (second.front h);
  kept = λ h o stands. second.kept h o (first.kept (second.was_honest h) o stands);
  left = λ h x left. first.left (second.was_honest h) x (second.left h x left);
  counted = second.counted ∙ ap (failures_after_write r) first.counted;
}

-- writes that failed before others
pub writes_failed : (S0 S1 : Standing) (h0 h1 : Option (List ℕ)) (c0 c1 : ℕ) (f : DumpFault) (L1 L2 M : Office → List (List ℕ))
    → Writes S0 S1 h0 h1 c0 c1 (Err f) L1 → ((o : Office) → S0.stands o → L1 o ++ L2 o ≡ M o) → Writes S0 S1 h0 h1 c0 c1 (Err f) M
writes_failed S0 S1 h0 h1 c0 c1 f L1 L2 M first both = record {
  was_honest = first.was_honest;
  falls = first.falls;
  told = λ h. tt;
  front = λ h o stands. front_more h0 h1 (L1 o) (L2 o) (M o) (both o stands) (first.front h o stands);
  kept = first.kept;
  left = first.left;
  counted = first.counted;
}

-- nothing is written
pub puts_nothing : (h : Option (List ℕ)) (c : ℕ) (x : Unit {0}) (lines : List (List ℕ)) → lines ≡ [] → Puts h h c c (Ok x) lines
puts_nothing h c x lines none = record {
  told = subst (IsTold h h c c) (sym none) (record { text = Appends-nil h; count = λ few. few ∙ ap counted (omega arith) });
  front = tt;
  cause = tt;
}

-- nothing is written yet
pub writes_nothing : (S : Standing) (h : Option (List ℕ)) (c : ℕ) (x : Unit {0}) (L : Office → List (List ℕ)) → ((o : Office) → S.stands o → L o ≡ []) → Writes S S h h c c (Ok x) L
writes_nothing S h c x L none = record {
  was_honest = λ h. h;
  falls = still_falls;
  told = λ _ o stands. subst (IsTold h h c c) (sym (none o stands)) (record { text = Appends-nil h; count = λ few. few ∙ ap counted (omega arith) });
  front = λ h. tt;
  kept = λ h o stands. stands;
  left = λ h x left. left;
  counted = refl;
}

-- what is written, said otherwise
pub writes_same : (S0 S1 : Standing) (h0 h1 : Option (List ℕ)) (c0 c1 : ℕ) (r : Result (Unit {0}) DumpFault) (L M : Office → List (List ℕ))
    → Writes S0 S1 h0 h1 c0 c1 r L → ((o : Office) → S0.stands o → L o ≡ M o) → Writes S0 S1 h0 h1 c0 c1 r M
writes_same S0 S1 h0 h1 c0 c1 r L M first both = record {
  was_honest = first.was_honest;
  falls = first.falls;
  told = λ h. ok_map r ((o : Office) → S0.stands o → IsTold h0 h1 c0 c1 (L o)) ((o : Office) → S0.stands o → IsTold h0 h1 c0 c1 (M o))
      (λ told o stands. subst (IsTold h0 h1 c0 c1) (both o stands) (told o stands)) (first.told h);
  front = λ h. err_map r ((o : Office) → S0.stands o → IsFront h0 h1 (concat (L o))) ((o : Office) → S0.stands o → IsFront h0 h1 (concat (M o)))
      (λ front o stands. subst (λ ls. IsFront h0 h1 (concat ls)) (both o stands) (front o stands)) (first.front h);
  kept = first.kept;
  left = first.left;
  counted = first.counted;
}

-- writes after a read
pub reads_writes : {A : Type 0} (S0 S1 S2 : Standing) (h0 h1 : Option (List ℕ)) (c0 c1 : ℕ) (x : A) (r : Result (Unit {0}) DumpFault) (T : Office → A → Type 0) (L M : Office → List (List ℕ))
    → Reads S0 S1 (Ok x) T → Writes S1 S2 h0 h1 c0 c1 r L → ((o : Office) → S0.stands o → T o x → L o ≡ M o) → Writes S0 S2 h0 h1 c0 c1 r M
reads_writes S0 S1 S2 h0 h1 c0 c1 x r T L M first second both = record {
  was_honest = λ h. first.was_honest (second.was_honest h);
  falls = then_falls first.falls second.falls;
  told = λ h. let was = second.was_honest h in
      ok_map r ((o : Office) → S1.stands o → IsTold h0 h1 c0 c1 (L o)) ((o : Office) → S0.stands o → IsTold h0 h1 c0 c1 (M o))
      (λ told o stands. subst (IsTold h0 h1 c0 c1) (both o stands (first.value was o stands)) (told o (first.kept was o stands))) (second.told h);
  front = λ h. let was = second.was_honest h in
      err_map r ((o : Office) → S1.stands o → IsFront h0 h1 (concat (L o))) ((o : Office) → S0.stands o → IsFront h0 h1 (concat (M o)))
      (λ front o stands. subst (λ ls. IsFront h0 h1 (concat ls)) (both o stands (first.value was o stands)) (front o (first.kept was o stands))) (second.front h);
  kept = λ h o stands. second.kept h o (first.kept (second.was_honest h) o stands);
  left = λ h x left. first.left (second.was_honest h) x (second.left h x left);
  counted = second.counted ∙ ap (failures_after_write r) first.counted;
}

no_failure : (f : DumpFault) (n : ℕ) → f ≢ Store store.Store → failures_after_write (Err f) n ≡ n
no_failure (Store store.Memory) n other = refl
no_failure (Store store.Store) n other = absurd (other refl)
no_failure Write n other = refl

no_failure_of : (r : Result (Unit {0}) DumpFault) (n : ℕ) → IfErr r (λ f. f ≢ Store store.Store) → n ≡ failures_after_write r n
no_failure_of (Ok x) n other = refl
no_failure_of (Err f) n other = sym (no_failure f n other)

-- lines of what was read
pub reads_puts : {A : Type 0} (S0 S1 : Standing) (h0 h1 : Option (List ℕ)) (c0 c1 : ℕ) (x : A) (r : Result (Unit {0}) DumpFault) (T : Office → A → Type 0) (lines : List (List ℕ)) (L : Office → List (List ℕ))
    → Reads S0 S1 (Ok x) T → Puts h0 h1 c0 c1 r lines → ((o : Office) → S0.stands o → T o x → lines ≡ L o) → Writes S0 S1 h0 h1 c0 c1 r L
reads_puts S0 S1 h0 h1 c0 c1 x r T lines L first puts both = record {
  was_honest = first.was_honest;
  falls = first.falls;
  told = λ h. ok_map r (IsTold h0 h1 c0 c1 lines) ((o : Office) → S0.stands o → IsTold h0 h1 c0 c1 (L o))
      (λ told o stands. subst (IsTold h0 h1 c0 c1) (both o stands (first.value h o stands)) told) puts.told;
  front = λ h. err_map r (IsFront h0 h1 (concat lines)) ((o : Office) → S0.stands o → IsFront h0 h1 (concat (L o)))
      (λ front o stands. subst (λ ls. IsFront h0 h1 (concat ls)) (both o stands (first.value h o stands)) front) puts.front;
  kept = first.kept;
  left = first.left;
  counted = first.counted ∙ no_failure_of r S0.failures puts.cause;
}

-- a read failed before anything was written
pub reads_failed : {A : Type 0} (S0 S1 : Standing) (h : Option (List ℕ)) (c : ℕ) (f : StoreFault) (T : Office → A → Type 0) (L : Office → List (List ℕ))
    → Reads {A = A} S0 S1 (Err f) T → Writes S0 S1 h h c c (Err (Store f)) L
reads_failed S0 S1 h c f T L first = record {
  was_honest = first.was_honest;
  falls = first.falls;
  told = λ h. tt;
  front = λ _ o stands. ([], concat (L o), refl, Appends-nil h);
  kept = first.kept;
  left = first.left;
  counted = first.counted;
}

-- memory was refused after a read, before anything was written
pub reads_refused : {A : Type 0} (S0 S1 : Standing) (h : Option (List ℕ)) (c : ℕ) (x : A) (T : Office → A → Type 0) (L : Office → List (List ℕ))
    → Reads S0 S1 (Ok x) T → Writes S0 S1 h h c c (Err (Store store.Memory)) L
reads_refused S0 S1 h c x T L first = record {
  was_honest = first.was_honest;
  falls = first.falls;
  told = λ h. tt;
  front = λ _ o stands. ([], concat (L o), refl, Appends-nil h);
  kept = first.kept;
  left = first.left;
  counted = first.counted;
}

-- ---- the whole text
some_end : (xs ys : List ℕ) (y : ℕ) → xs ++ (ys ++ y ∷ []) ≢ []
some_end [] [] y e = cc
some_end [] (z ∷ ys) y e = cc
some_end (x ∷ xs) ys y e = cc

last_now : (n m : ℕ) → (0 ≡ counted 0 → n ≡ counted (0 + m)) → last_line n ≡ last_line (counted m)
last_now n m e = ap last_line (e (omega arith) ∙ ap counted (omega arith))

-- all lines and then the last
pub dumps_then : (S0 S1 : Standing) (h0 h1 h2 : Option (List ℕ)) (n : ℕ) (x : Unit {0}) (r : Result (Unit {0}) DumpFault)
    → Writes S0 S1 h0 h1 0 n (Ok x) lines_of → OnOk r (Appends h1 h2 (last_line n)) → OnErr r (IsCut h1 h2 (last_line n)) → IfErr r (λ f. f ≢ Store store.Store)
    → Dumps S0 S1 h0 h2 r
dumps_then S0 S1 h0 h1 h2 n x r first whole cut cause = record {
  was_honest = first.was_honest;
  falls = first.falls;
  whole = λ h. ok_map r (Appends h1 h2 (last_line n)) ((o : Office) → S0.stands o → Appends h0 h2 (dump_text o))
      (λ appends o stands. let told = first.told h o stands in
      Appends-trans h0 h1 h2 (concat (lines_of o)) (last_line (counted (length (lines_of o)))) told.text (subst (Appends h1 h2) (last_now n (length (lines_of o)) told.count) appends)) whole;
  cut = λ h. err_map r (IsCut h1 h2 (last_line n)) ((o : Office) → S0.stands o → IsCut h0 h2 (dump_text o))
      (λ cut o stands. let told = first.told h o stands in (
        concat (lines_of o) ++ cut.0,
        cut.1,
        ap (λ t. concat (lines_of o) ++ t) (sym (last_now n (length (lines_of o)) told.count) ∙ cut.2) ∙ sym (append_assoc (concat (lines_of o)) cut.0 cut.1),
        cut.3,
        Appends-trans h0 h1 h2 (concat (lines_of o)) cut.0 told.text cut.4,
      )) cut;
  kept = first.kept;
  left = first.left;
  counted = first.counted ∙ no_failure_of r S0.failures cause;
}

-- lines that failed are a text that is cut
pub dumps_failed : (S0 S1 : Standing) (h0 h1 : Option (List ℕ)) (n : ℕ) (f : DumpFault) → Writes S0 S1 h0 h1 0 n (Err f) lines_of → Dumps S0 S1 h0 h1 (Err f)
dumps_failed S0 S1 h0 h1 n f first = record {
  was_honest = first.was_honest;
  falls = first.falls;
  whole = λ h. tt;
  cut = λ h o stands. let front = first.front h o stands in
      let last = last_line (counted (length (lines_of o))) in (
        front.0,
        front.1 ++ last,
        ap (λ t. t ++ last) front.2 ∙ append_assoc front.0 front.1 last,
        some_end front.1 _ 10,
        front.3,
      );
  kept = first.kept;
  left = first.left;
  counted = first.counted;
}

-- ---- errors that `?` passes on
pub failed_given : (S0 S1 : Standing) (h0 h1 : Option (List ℕ)) (c0 c1 : ℕ) (f : DumpFault) (r : Result (Unit {0}) DumpFault) (L1 L2 M : Office → List (List ℕ))
    → IsErrAnd r (λ e. e ≡ f) → Writes S0 S1 h0 h1 c0 c1 (Err f) L1 → ((o : Office) → S0.stands o → L1 o ++ L2 o ≡ M o) → Writes S0 S1 h0 h1 c0 c1 r M
failed_given S0 S1 h0 h1 c0 c1 f (Ok x) L1 L2 M is first both = absurd is
failed_given S0 S1 h0 h1 c0 c1 f (Err e) L1 L2 M is first both =
    subst (λ g. Writes S0 S1 h0 h1 c0 c1 (Err g) M) (sym is) (writes_failed S0 S1 h0 h1 c0 c1 f L1 L2 M first both)

pub read_given : {A : Type 0} (S0 S1 : Standing) (h : Option (List ℕ)) (c : ℕ) (f : StoreFault) (r : Result (Unit {0}) DumpFault) (T : Office → A → Type 0) (L : Office → List (List ℕ))
    → IsErrAnd r (λ e. e ≡ Store f) → Reads {A = A} S0 S1 (Err f) T → Writes S0 S1 h h c c r L
read_given {A} S0 S1 h c f (Ok x) T L is first = absurd is
read_given {A} S0 S1 h c f (Err e) T L is first = subst (λ g. Writes S0 S1 h h c c (Err g) L) (sym is) (reads_failed {A = A} S0 S1 h c f T L first)

pub refused_given : {A : Type 0} (S0 S1 : Standing) (h : Option (List ℕ)) (c : ℕ) (x : A) (r : Result (Unit {0}) DumpFault) (T : Office → A → Type 0) (L : Office → List (List ℕ))
    → IsErrAnd r (λ e. e ≡ Store store.Memory) → Reads S0 S1 (Ok x) T → Writes S0 S1 h h c c r L
refused_given S0 S1 h c x (Ok y) T L is first = absurd is
refused_given S0 S1 h c x (Err e) T L is first = subst (λ g. Writes S0 S1 h h c c (Err g) L) (sym is) (reads_refused S0 S1 h c x T L first)

pub dump_given : (S0 S1 : Standing) (h0 h1 : Option (List ℕ)) (n : ℕ) (f : DumpFault) (r : Result (Unit {0}) DumpFault)
    → IsErrAnd r (λ e. e ≡ f) → Writes S0 S1 h0 h1 0 n (Err f) lines_of → Dumps S0 S1 h0 h1 r
dump_given S0 S1 h0 h1 n f (Ok x) is first = absurd is
dump_given S0 S1 h0 h1 n f (Err e) is first = subst (λ g. Dumps S0 S1 h0 h1 (Err g)) (sym is) (dumps_failed S0 S1 h0 h1 n f first)

-- nothing was written of a last line
pub nothing_cut : (h : Option (List ℕ)) (n : ℕ) (r : Result (Unit {0}) DumpFault) → OnErr r (IsCut h h (last_line n))
nothing_cut h n (Ok x) = tt
nothing_cut h n (Err e) = ([], last_line n, refl, some_end [] _ 10, Appends-nil h)

pub read_failed_given : {A B C : Type 0} (S0 S1 S2 : Standing) (x : A) (f : StoreFault) (r : Result C StoreFault) (T : Office → A → Type 0) (U : Office → B → Type 0) (V : Office → C → Type 0)
    → IsErrAnd r (λ e. e ≡ f) → Reads S0 S1 (Ok x) T → Reads {A = B} S1 S2 (Err f) U → Reads S0 S2 r V
read_failed_given S0 S1 S2 x f (Ok y) T U V is first second = absurd is
read_failed_given {A} {B} {C} S0 S1 S2 x f (Err e) T U V is first second =
    subst (λ g. Reads {A = C} S0 S2 (Err g) V) (sym is) (reads_stopped {A = A} {B = B} {C = C} S0 S1 S2 x f T U V first second)

pub read_refused_given : {A C : Type 0} (S0 S1 : Standing) (x : A) (r : Result C StoreFault) (T : Office → A → Type 0) (V : Office → C → Type 0)
    → IsErrAnd r (λ e. e ≡ store.Memory) → Reads S0 S1 (Ok x) T → Reads S0 S1 r V
read_refused_given S0 S1 x (Ok y) T V is first = absurd is
read_refused_given {A} {C} S0 S1 x (Err e) T V is first = subst (λ g. Reads {A = C} S0 S1 (Err g) V) (sym is) (reads_without {A = A} {B = C} S0 S1 x T V first)
