-- Reads inside a transaction, one after another.
use Rattle.book_tables.proofs.Common.{◌≡◌, inl, Result, Ok, Err, arith, refl, sym, ap, subst, ◌∙◌, IsTrue, ℕ, State, HasCleanDisk, Survives, Office, StoreFault, failures_after_fault, Keeps, Looks, Inside, inside_by, inside_of, ReadsInside, IsKept, StandsFor, unseen_then}
use Rattle.std.proofs.Common.{IsErrAnd, List}
use Rattle.std.specs.Borrow.{GName}
use Rattle.sqlite.specs.State.{KeepsCommit}
use Rattle.book_office.specs.declared.keepers.StoreFault.TheVariants.{Memory}
use Rattle.book_tables_rows.proofs.Keeping.{looks_then}

-- what was committed stays if it stays twice
pub commit_then : (a b c : State) → KeepsCommit a b → KeepsCommit b c → KeepsCommit a c
commit_then a b c one two = record { was_open = λ now. one.was_open (two.was_open now); committed = λ now. two.committed now ∙ one.committed (two.was_open now) }

-- what was looked at stands for what it stood for
pub stands_then : (a b : State) → KeepsCommit a b → Looks a b → (o : Office) → StandsFor a o → StandsFor b o
stands_then a b commit look o stands = (λ now. let st = stands.0 (commit.was_open now) in subst (λ db. IsKept db o) (sym (look.same st.book)) st, stands.1)

pub unseen_itself : (s : State) → Survives s s (λ _. ⊥)
unseen_itself s = record { clean = omega arith; shield = λ h. h; counts = omega arith; limit = refl; closes = λ h is_open. inl is_open; crash = λ h db may. inl may }

pub keeps_itself : (s : State) → Keeps s s
keeps_itself s h inside = record { was_open = λ now. now; committed = λ now. refl }

looks_itself : (s : State) → Looks s s
looks_itself s = record { mode = refl; same = λ book. refl }

module _ {A : Type 0} (a b : Inside) (x : A) (T : Office → A → Type 0) (first : ReadsInside a b (Ok x) T) where
  -- what was read tells something else
  pub then_tells : {B : Type 0} (y : B) (U : Office → B → Type 0) → ((o : Office) → T o x → U o y) → ReadsInside a b (Ok y) U
  then_tells y U more = record {
    survives = first.survives;
    kept = first.kept;
    stays = first.stays;
    value = λ h inside o stands. more o (first.value h inside o stands);
    counted = first.counted;
    named = first.named;
  }

  module _ (c : State) (survives : Survives b.state c (λ _. ⊥)) (kept : Keeps b.state c) where
    pub clean_then : HasCleanDisk c → HasCleanDisk b.state
    clean_then h = omega (arith, h, survives.clean)

    -- the transaction is open still
    pub inside_then : HasCleanDisk c → IsTrue a.state.in_transaction → IsTrue b.state.in_transaction
    inside_then h inside = (first.stays (clean_then h)).mode ∙ inside

    pub kept_then : Keeps a.state c
    kept_then h inside = commit_then a.state b.state c (first.kept (clean_then h) inside) (kept h (inside_then h inside))

    pub stood_then : HasCleanDisk c → IsTrue a.state.in_transaction → (o : Office) → StandsFor a.state o → StandsFor b.state o
    stood_then h inside o stands = stands_then a.state b.state (first.kept (clean_then h) inside) (first.stays (clean_then h)) o stands

  -- both were read
  pub then_reads : {B : Type 0} (c : Inside) (y : B) (U : Office → B → Type 0) → ReadsInside b c (Ok y) U → ReadsInside {A = A × B} a c (Ok (x, y)) (λ o both. T o both.0 × U o both.1)
  then_reads c y U second = record {
    survives = unseen_then a.state b.state c.state first.survives second.survives;
    kept = kept_then c.state second.survives second.kept;
    stays = λ h. looks_then a.state b.state c.state (first.stays (clean_then c.state second.survives second.kept h)) (second.stays h);
    value = λ h inside o stands. (
      first.value (clean_then c.state second.survives second.kept h) inside o stands,
      second.value h (inside_then c.state second.survives second.kept h inside) o (stood_then c.state second.survives second.kept h inside o stands),
    );
    counted = second.counted ∙ first.counted;
    named = second.named ∙ first.named;
  }

  -- the second read failed
  pub then_fails : {B C : Type 0} (c : Inside) (fault : StoreFault) (U : Office → B → Type 0) (V : Office → C → Type 0) → ReadsInside b c (Err fault) U → ReadsInside a c (Err fault) V
  then_fails c fault U V second = record {
    survives = unseen_then a.state b.state c.state first.survives second.survives;
    kept = kept_then c.state second.survives second.kept;
    stays = λ h. tt;
    value = λ h _. tt;
    counted = second.counted ∙ ap (failures_after_fault fault) first.counted;
    named = second.named ∙ first.named;
  }

  -- another read answers
  pub then_answers : {B : Type 0} (c : Inside) (r : Result B StoreFault) (U V : Office → B → Type 0) → ReadsInside b c r U → ((o : Office) (y : B) → T o x → U o y → V o y) → ReadsInside a c r V
  then_answers c (Ok y) U V second more = record {
    survives = unseen_then a.state b.state c.state first.survives second.survives;
    kept = kept_then c.state second.survives second.kept;
    stays = λ h. looks_then a.state b.state c.state (first.stays (clean_then c.state second.survives second.kept h)) (second.stays h);
    value = λ h inside o stands. more o y (first.value (clean_then c.state second.survives second.kept h) inside o stands)
        (second.value h (inside_then c.state second.survives second.kept h inside) o (stood_then c.state second.survives second.kept h inside o stands));
    counted = second.counted ∙ first.counted;
    named = second.named ∙ first.named;
  }
  then_answers c (Err fault) U V second more = then_fails c fault U V second

  -- what follows wants memory, or finds the store corrupt
  pub then_gives_up : {C : Type 0} (V : Office → C → Type 0) (fault : StoreFault) (failures : ℕ) → failures ≡ failures_after_fault fault b.failures
      → ReadsInside a (record b { failures = failures }) (Err fault) V
  then_gives_up V fault failures counted = record {
    survives = first.survives;
    kept = first.kept;
    stays = λ h. tt;
    value = λ h _. tt;
    counted = counted ∙ ap (failures_after_fault fault) first.counted;
    named = first.named;
  }

-- nothing was read
pub reads_nothing : {A : Type 0} (a : Inside) (x : A) (T : Office → A → Type 0) → ((o : Office) → T o x) → ReadsInside a a (Ok x) T
reads_nothing a x T told = record { survives = unseen_itself a.state; kept = keeps_itself a.state; stays = λ h. looks_itself a.state; value = λ h _ o stands. told o; counted = refl; named = refl }

-- nothing was read, for want of memory
pub reads_refused : {A : Type 0} (a : Inside) (T : Office → A → Type 0) → ReadsInside a a (Err Memory) T
reads_refused a T = record { survives = unseen_itself a.state; kept = keeps_itself a.state; stays = λ h. tt; value = λ h _. tt; counted = refl; named = refl }

-- what a read answers tells something else
pub reads_as : {A : Type 0} (a b : Inside) (r : Result A StoreFault) (T U : Office → A → Type 0) → ((o : Office) (x : A) → T o x → U o x) → ReadsInside a b r T → ReadsInside a b r U
reads_as a b (Ok x) T U more read = then_tells a b x T read x U (λ o t. more o x t)
reads_as a b (Err fault) T U more read = record { survives = read.survives; kept = read.kept; stays = λ h. tt; value = λ h _. tt; counted = read.counted; named = read.named }

-- a failure that is passed on
pub passed_on : {B C : Type 0} (a c : Inside) (fault : StoreFault) (r : Result C StoreFault) (U : Office → B → Type 0) (V : Office → C → Type 0)
    → IsErrAnd r (λ e. e ≡ fault) → ReadsInside {A = B} a c (Err fault) U → ReadsInside a c r V
passed_on {B} {C} a c fault (Ok x) U V is read = absurd is
passed_on {B} {C} a c fault (Err e) U V is read = record {
  survives = read.survives;
  kept = read.kept;
  stays = λ h. tt;
  value = λ h _. tt;
  counted = read.counted ∙ ap (λ f. failures_after_fault f a.failures) (sym is);
  named = read.named;
}

-- by whatever names
pub read_unnamed : {A : Type 0} (old new : Inside) (r : Result A StoreFault) (T : Office → A → Type 0) → ReadsInside old new r T → ReadsInside (inside_of old.state old.failures) (inside_of new.state new.failures) r T
read_unnamed old new r T read = record { survives = read.survives; kept = read.kept; stays = read.stays; value = read.value; counted = read.counted; named = refl }

-- through a struct
pub read_named : {A : Type 0} (s t : State) (n m : ℕ) (r : Result A StoreFault) (T : Office → A → Type 0) → ReadsInside (inside_of s n) (inside_of t m) r T → (before after : List GName) → after ≡ before
    → ReadsInside (inside_by before s n) (inside_by after t m) r T
read_named s t n m r T read before after same = record { survives = read.survives; kept = read.kept; stays = read.stays; value = read.value; counted = read.counted; named = same }
