-- Reads one after the other.
use Rattle.book_office_audit.proofs.Common.{◌≡◌, Ok, refl, sym, ◌∙◌, ap, Reads, Office}
use Rattle.std.proofs.Common.{false, Result, Err}
use Rattle.std.specs.Result.{OnOk, is_err}
use Rattle.std.proofs.lemmas.Bool.{false≢true}
use Rattle.std.proofs.lemmas.Result.{IfOk-weaker}
use Rattle.book_office.specs.Keeping.{Standing, failures_after}
use Rattle.book_office.specs.declared.keepers.StoreFault.{StoreFault}
use Rattle.book_office.specs.declared.keepers.StoreFault.TheVariants.{Memory}
use Rattle.book_office.proofs.Fallbacks.{still_falls, then_falls}

-- nothing was read
pub reads_nothing : {A : Type 0} (standing : Standing) (x : A) (T : Office → A → Type 0) → (standing.honest → (o : Office) → standing.stands o → T o x) → Reads standing standing (Ok x) T
reads_nothing standing x T tells = record {
  was_honest = λ h. h;
  falls = still_falls;
  value = tells;
  kept = λ h o stands. stands;
  left = λ h x left. left;
  counted = refl;
}

-- a read after one that answered
pub reads_then : {A B : Type 0} (old mid new : Standing) (x : A) (r : Result B StoreFault) (T : Office → A → Type 0) (U V : Office → B → Type 0)
    → Reads old mid (Ok x) T → Reads mid new r U
    → ((o : Office) → old.stands o → T o x → (y : B) → U o y → V o y) → Reads old new r V
reads_then old mid new x r T U V first second both = record {
  was_honest = λ h. first.was_honest (second.was_honest h);
  falls = then_falls first.falls second.falls;
  value = λ h. let was = second.was_honest h in
      IfOk-weaker r (λ y. (o : Office) → mid.stands o → U o y) (λ y. (o : Office) → old.stands o → V o y)
      (λ y tells o stands. both o stands (first.value was o stands) y (tells o (first.kept was o stands))) (second.value h);
  kept = λ h o stands. let was = second.was_honest h in second.kept h o (first.kept was o stands);
  left = λ h x left. first.left (second.was_honest h) x (second.left h x left);
  counted = second.counted ∙ ap (failures_after r) first.counted;
}

-- what is told, said otherwise
pub reads_weaker : {A B : Type 0} (old new : Standing) (x : A) (y : B) (T : Office → A → Type 0) (V : Office → B → Type 0)
    → Reads old new (Ok x) T → ((o : Office) → old.stands o → T o x → V o y) → Reads old new (Ok y) V
reads_weaker old new x y T V first both = record {
  was_honest = first.was_honest;
  falls = first.falls;
  value = λ h o stands. both o stands (first.value h o stands);
  kept = first.kept;
  left = first.left;
  counted = first.counted;
}

-- want of memory after a read
pub reads_refused : {A B : Type 0} (old new : Standing) (x : A) (T : Office → A → Type 0) (V : Office → B → Type 0)
    → Reads old new (Ok x) T → Reads old new (Err Memory) V
reads_refused old new x T V first = record {
  was_honest = first.was_honest;
  falls = first.falls;
  value = λ h. tt;
  kept = first.kept;
  left = first.left;
  counted = first.counted;
}

-- a read that failed after one that answered
pub reads_failed : {A B C : Type 0} (old mid new : Standing) (x : A) (f : StoreFault) (T : Office → A → Type 0) (U : Office → B → Type 0) (V : Office → C → Type 0)
    → Reads old mid (Ok x) T → Reads {A = B} mid new (Err f) U → Reads {A = C} old new (Err f) V
reads_failed {A} {B} {C} old mid new x f T U V first second = record {
  was_honest = λ h. first.was_honest (second.was_honest h);
  falls = then_falls first.falls second.falls;
  value = λ h. tt;
  kept = λ h o stands. let was = second.was_honest h in second.kept h o (first.kept was o stands);
  left = λ h x left. first.left (second.was_honest h) x (second.left h x left);
  counted = second.counted ∙ ap (failures_after {A = B} (Err f)) first.counted;
}

pub on_ok_at : {A E : Type 0} (r : Result A E) (P : Type 0) → OnOk r P → is_err r ≡ false → P
on_ok_at (Ok x) P h e = h
on_ok_at (Err x) P h e = absurd (false≢true (sym e))
