-- What a call inside a transaction keeps, whatever it answers.
use Rattle.book_tables_rows.proofs.Common.{◌≡◌, ◌⊎◌, inl, inr, ℕ, List, Option, Some, None, Ok, Err, Result, refl, sym, subst, ◌∙◌, IsTrue, Row, understood, State, Survives, IsPlain, IsBook, book_schema, Looks}
use Rattle.std.proofs.Common.{OnOk, OnErr, IfOk, IfErr}
use Rattle.sqlite_resolve.specs.declared.compiled.Compiled.{Compiled}
use Rattle.sqlite_schema.specs.declared.command.Returning.{Returning}
use Rattle.sqlite.specs.Clock.{timed}
use Rattle.sqlite.specs.declared.error.Error.{Error}
use Rattle.sqlite.specs.State.{IsUnchanged, IsRolledBack, KeepsCommit, IsNotRun, FailsToShow, FailsToQuery, IsTooLate, ShowsRows, Shown}
use Rattle.sqlite.proofs.StateLemmas.{survives_then}

pub on_ok : {A E : Type 0} (r : Result A E) (P Q : Type 0) → (P → Q) → OnOk r P → OnOk r Q
on_ok (Ok a) P Q f h = f h
on_ok (Err e) P Q f h = tt

pub on_err : {A E : Type 0} (r : Result A E) (P : Type 0) → P → OnErr r P
on_err (Ok a) P p = tt
on_err (Err e) P p = p

-- ---- what a call inside a transaction keeps, whatever it answers

same_commit : (old new : State) → IsUnchanged old new → KeepsCommit old new
same_commit old new same = record { was_open = λ _. same.0.was_open; committed = λ _. same.0.committed_is }

undone_commit : (old new : State) → IsRolledBack old new → KeepsCommit old new
undone_commit old new back = record { was_open = back.was_open; committed = λ open_now. (back.undone open_now).1 }

not_run_keeps : (sql : List ℕ) (params : Row) (old new : State) (e : Error) → IsNotRun old new sql params e → KeepsCommit old new
unfolding IsNotRun
not_run_keeps sql params old new e (inl same) = same_commit old new same.1
not_run_keeps sql params old new e (inr fails) = undone_commit old new fails.3

fails_to_show_keeps : (sql : List ℕ) (old new : State) (c : Compiled) (params : Row) (e : Error) (returning : Option Returning) → FailsToShow old new sql c params e returning → KeepsCommit old new
fails_to_show_keeps sql old new c params e None h = same_commit old new h.3
fails_to_show_keeps sql old new c params e (Some what) (inl same) = same_commit old new same.1
fails_to_show_keeps sql old new c params e (Some what) (inr fails) = undone_commit old new fails.3

pub fails_keeps : (sql : List ℕ) (params : Row) (old new : State) (e : Error) → FailsToQuery sql params old new e ⊎ IsTooLate sql params old new e → KeepsCommit old new
unfolding FailsToQuery
fails_keeps sql params old new e (inl (inl none)) = not_run_keeps sql params old new e none
fails_keeps sql params old new e (inl (inr h)) = fails_to_show_keeps sql old new h.0 _ e h.0.returning h.2
fails_keeps sql params old new e (inr late) = same_commit old new late.5

shows_rows_keeps : (sql : List ℕ) (old new : State) (c : Compiled) (params : Row) (rows : List Row) (returning : Option Returning) → IsTrue old.in_transaction → ShowsRows old new sql c params rows returning → KeepsCommit old new
shows_rows_keeps sql old new c params rows None inside h = same_commit old new h.3
shows_rows_keeps sql old new c params rows (Some what) inside h = record { was_open = λ _. h.1.shown.was_open; committed = λ _. h.1.shown.committed_is ∙ rw inside refl }

pub shown_keeps : (sql : List ℕ) (params : Row) (old new : State) (rows : List Row) → IsTrue old.in_transaction → Shown sql params old new rows → KeepsCommit old new
unfolding Shown
shown_keeps sql params old new rows inside h = shows_rows_keeps sql old new h.0 _ rows h.0.returning inside h.2

pub query_keeps : {X : Type 0} (items : X → List Row) (sql : List ℕ) (params : Row) (old new : State) (r : Result X Error) → IsTrue old.in_transaction → IfOk r (λ x. Shown sql params old new (items x))
    → IfErr r (λ e. FailsToQuery sql params old new e ⊎ IsTooLate sql params old new e) → KeepsCommit old new
query_keeps items sql params old new (Ok x) inside ok err = shown_keeps sql params old new (items x) inside ok
query_keeps items sql params old new (Err e) inside ok err = fails_keeps sql params old new e err

shows_rows_open : (sql : List ℕ) (old new : State) (c : Compiled) (params : Row) (rows : List Row) (returning : Option Returning) → ShowsRows old new sql c params rows returning → IsTrue old.is_open
shows_rows_open sql old new c params rows None h = h.3.0.was_open
shows_rows_open sql old new c params rows (Some what) h = h.1.shown.was_open

pub shown_open : (sql : List ℕ) (params : Row) (old new : State) (rows : List Row) → Shown sql params old new rows → IsTrue old.is_open
unfolding Shown
shown_open sql params old new rows h = shows_rows_open sql old new h.0 _ rows h.0.returning h.2

-- a read leaves the mode
shows_rows_mode : (sql : List ℕ) (old new : State) (c : Compiled) (params : Row) (rows : List Row) (returning : Option Returning) → ShowsRows old new sql c params rows returning → new.in_transaction ≡ old.in_transaction
shows_rows_mode sql old new c params rows None h = h.3.0.mode
shows_rows_mode sql old new c params rows (Some what) h = h.1.shown.mode

pub shown_mode : (sql : List ℕ) (params : Row) (old new : State) (rows : List Row) → Shown sql params old new rows → new.in_transaction ≡ old.in_transaction
unfolding Shown
shown_mode sql params old new rows h = shows_rows_mode sql old new h.0 _ rows h.0.returning h.2

-- and what is there, where its text is known
pub shown_same : (sql : List ℕ) (params : Row) (old new : State) (rows : List Row) → IsPlain (understood old.now.schema sql) → Shown sql params old new rows → new.now ≡ old.now
unfolding Shown
shown_same sql params old new rows plain h =
    let none = (subst IsPlain h.1.is plain).0 in
    let it = subst (ShowsRows old new sql h.0 (timed params h.0.formats h.1.now) rows) none h.2 in
    it.3.0.now_is

-- a read of the tables leaves them
pub looked : (sql : List ℕ) → IsPlain (understood book_schema sql) → (params : Row) (old new : State) (rows : List Row) → Shown sql params old new rows → Looks old new
looked sql plain params old new rows h = record {
  mode = shown_mode sql params old new rows h;
  same = λ book. shown_same sql params old new rows (subst (λ s. IsPlain (understood s sql)) (sym book.schema) plain) h;
}

-- two steps of which a stop leaves nothing more are one
pub unseen_then : (a b c : State) → Survives a b (λ _. ⊥) → Survives b c (λ _. ⊥) → Survives a c (λ _. ⊥)
unseen_then a b c one two = survives_then a b c (λ _. ⊥) (λ _. ⊥) (λ _. ⊥) (λ _ db none. none) (λ _ db none. none) one two

-- ---- reads one after the other

pub looks_then : (a b c : State) → Looks a b → Looks b c → Looks a c
looks_then a b c first second = record {
  mode = second.mode ∙ first.mode;
  same = λ book. second.same (subst IsBook (sym (first.same book)) book) ∙ first.same book;
}
