-- Reads one after the other, as far as a function was done with them.
use Rattle.std.proofs.Common.{◌≡◌, Result, Ok, Err, sym, subst, IsErrAnd}
use Rattle.std.specs.Result.{IfOk}
use Rattle.book_office.specs.Keeping.{Reads, Standing}
use Rattle.book_office.specs.declared.keepers.StoreFault.{StoreFault}
use Rattle.book_office.specs.declared.keepers.StoreFault.TheVariants.{Memory}
use Rattle.book_office_audit.proofs.ReadsInTurn.{reads_failed, reads_nothing, reads_refused}
use Rattle.book_office_values.specs.declared.offices.Office.{Office}

-- an error tells nothing
pub told_nothing : {A E : Type 0} (r : Result A E) (P : E → Type 0) (Q : A → Type 0) → IsErrAnd r P → IfOk r Q
told_nothing (Ok x) P Q is = absurd is
told_nothing (Err e) P Q is = tt

-- memory was refused before a read
pub refused_first : {C : Type 0} (S : Standing) (r : Result C StoreFault) (V : Office → C → Type 0) → IsErrAnd r (λ e. e ≡ Memory) → Reads S S r V
refused_first S (Ok y) V is = absurd is
refused_first {C} S (Err e) V is =
    subst (λ g. Reads {A = C} S S (Err g) V) (sym is) (reads_refused {A = Unit {0}} {B = C} S S tt (λ _ _. Unit {0}) V (reads_nothing S tt (λ _ _. Unit {0}) (λ _ _ _. tt)))

-- memory was refused after a read
pub refused_then : {A C : Type 0} (S0 S1 : Standing) (x : A) (r : Result C StoreFault) (T : Office → A → Type 0) (V : Office → C → Type 0)
    → IsErrAnd r (λ e. e ≡ Memory) → Reads S0 S1 (Ok x) T → Reads S0 S1 r V
refused_then S0 S1 x (Ok y) T V is first = absurd is
refused_then {A} {C} S0 S1 x (Err e) T V is first = subst (λ g. Reads {A = C} S0 S1 (Err g) V) (sym is) (reads_refused {A = A} {B = C} S0 S1 x T V first)

-- a read failed, the first or one after another
pub failed_then : {A B C : Type 0} (S0 S1 S2 : Standing) (x : A) (f : StoreFault) (r : Result C StoreFault) (T : Office → A → Type 0) (U : Office → B → Type 0) (V : Office → C → Type 0)
    → IsErrAnd r (λ e. e ≡ f) → Reads S0 S1 (Ok x) T → Reads {A = B} S1 S2 (Err f) U → Reads S0 S2 r V
failed_then S0 S1 S2 x f (Ok y) T U V is first second = absurd is
failed_then {A} {B} {C} S0 S1 S2 x f (Err e) T U V is first second =
    subst (λ g. Reads {A = C} S0 S2 (Err g) V) (sym is) (reads_failed {A = A} {B = B} {C = C} S0 S1 S2 x f T U V first second)

pub failed_first : {B C : Type 0} (S0 S1 : Standing) (f : StoreFault) (r : Result C StoreFault) (U : Office → B → Type 0) (V : Office → C → Type 0)
    → IsErrAnd r (λ e. e ≡ f) → Reads {A = B} S0 S1 (Err f) U → Reads S0 S1 r V
failed_first {B} {C} S0 S1 f r U V is only =
    failed_then {A = Unit {0}} {B = B} {C = C} S0 S0 S1 tt f r (λ _ _. Unit {0}) U V is (reads_nothing S0 tt (λ _ _. Unit {0}) (λ _ _ _. tt)) only
