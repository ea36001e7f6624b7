-- What a query for the version says of the tables that it reads.
use Rattle.std.proofs.lemmas.Bool.{and_parts}
use Rattle.std.proofs.Common.{◌≡◌, inl, inr, ℕ, Bool, true, false, true≢false, ◌&&◌, if◌then◌else◌, List, [], ◌∷◌, Option, Some, None, Result, Ok, Err, IfOk, IsTrue, refl, sym, ap, subst}
use Rattle.sqlite.specs.declared.error.Error.{Error}
use Rattle.sqlite.specs.declared.error.Error.TheVariants.{SqlInputError, InvalidQuery}
use Rattle.sqlite_trees.specs.declared.error.StoreError.{StoreError}
use Rattle.sqlite_trees.specs.declared.error.StoreError.TheVariants.{OutOfMemory, Io, Corrupt, Full, Broken, Unstorable}
use Rattle.sqlite_ast.specs.declared.Select as written_select
use Rattle.sqlite_ast.specs.declared.Statement.{Statement}
use Rattle.sqlite_ast.specs.declared.Statement.TheVariants as written
use Rattle.sqlite_syntax.specs.declared.statement.Parsed.{Parsed}
use Rattle.sqlite_schema.specs.declared.command.Command.{Command}
use Rattle.sqlite_schema.specs.declared.schema.Schema.{Schema}
use Rattle.sqlite_resolve.specs.Compile.{compiled, first, planned, meaning, returning, timed, with_command}
use Rattle.sqlite_resolve.specs.Lowering.{Checked, and_then}
use Rattle.sqlite_resolve.specs.Scope.{Name}
use Rattle.sqlite_resolve.specs.declared.compiled.Compiled.{Compiled}
use Rattle.sqlite.specs.Listing.{understood, reads_listing, if_select, is_select, listing_schema}
use Rattle.sqlite_tied.specs.Compute.{everything}
use Rattle.sqlite_resolve.specs.declared.error.CompileError.{CompileError}
use Rattle.sqlite_schema.specs.declared.command.Command.TheVariants.{Select, Rows}
use Rattle.sqlite_schema.specs.declared.command.Returning.{Returning}
use Rattle.sqlite.specs.Clock.{timed as timed_at}
use Rattle.sqlite.specs.Effect.{Database, Reads, RefusesToRead}
use Rattle.sqlite.specs.Listing.{IsSourceOf}
use Rattle.sqlite.specs.Order.{Row}
use Rattle.sqlite.specs.State.{State, Shown, ShowsRows, FailsToShow, FailsToQuery, IsTooLate, IsNotRun, store_error}
use Rattle.book_tables_rows.specs.Steps.{Stays}
use Rattle.book_tables_rows.proofs.Keeping.{shown_open}
use Rattle.book_tables_schema.specs.Versions.{read_version, SaysOther}
use Rattle.book_tables_opening.specs.Reading.{HidesVersions, ShowsVersions, TellsOther}

-- ---- a query without formats

abbrev is_query : Statement → Bool
is_query (written.Select s) = true
is_query _ = false

abbrev are_none : List Name → Bool
are_none [] = true
are_none (format ∷ formats) = false

abbrev is_plain_query : Checked Parsed → Bool
is_plain_query (Ok p) = is_query p.statement && are_none p.formats
is_plain_query (Err e) = true

version_is_plain : is_plain_query (first read_version) ≡ true
unfolding first everything
version_is_plain = refl

query_of : (st : Statement) → is_query st ≡ true → (s : written_select.Select) × (st ≡ written.Select s)
query_of (written.Select s) h = (s, refl)
query_of _ h = absurd (true≢false (sym h))

none_of : (formats : List Name) → are_none formats ≡ true → formats ≡ []
none_of [] h = refl
none_of (format ∷ formats) h = absurd (true≢false (sym h))

-- if it is understood, it shows rows alone and reads no time
abbrev pub IsPlainIf : Result Compiled CompileError → Type 0
IsPlainIf (Ok c) = (c.returning ≡ None) × (c.formats ≡ [])
IsPlainIf (Err e) = Unit {0}

plain_command : (p : Parsed) (k : Checked Command) → IsPlainIf (and_then (and_then (and_then k (λ c. Ok (c, None))) (λ found. Ok ([], found))) (λ plan. Ok (with_command p plan)))
plain_command p (Ok c) = (refl, refl)
plain_command p (Err e) = tt

module _ (schema : Schema) where
  plain_query : (p : Parsed) (s : written_select.Select) → IsPlainIf (and_then (planned schema (record p { statement = written.Select s; formats = [] })) (λ plan. Ok (with_command p plan)))
  unfolding planned meaning returning timed
  plain_query p s = plain_command p _

  plain_first : (r : Checked Parsed) → is_plain_query r ≡ true → IsPlainIf (and_then r (λ p. and_then (planned schema p) (λ plan. Ok (with_command p plan))))
  plain_first (Ok p) h =
      let parts = and_parts (is_query p.statement) (are_none p.formats) h in
      let it = query_of p.statement parts.0 in
      let none = none_of p.formats parts.1 in
      let same : record p { statement = written.Select it.0; formats = [] } ≡ p = λ i. record p { statement = sym it.1 i; formats = sym none i } in
      subst (λ (q : Parsed). IsPlainIf (and_then (planned schema q) (λ plan. Ok (with_command p plan)))) same (plain_query p it.0)
  plain_first (Err e) h = tt

  plain_compiled : IsPlainIf (compiled schema read_version)
  unfolding compiled
  plain_compiled = plain_first (first read_version) version_is_plain

plain_either : (b : Bool) (x y : Result Compiled CompileError) → IsPlainIf x → IsPlainIf y → IsPlainIf (if b then x else y)
plain_either true x y p q = p
plain_either false x y p q = q

plain_if_select : (r : Result Compiled CompileError) → IsPlainIf r → IsPlainIf (if_select r)
plain_if_select (Ok c) plain = plain_either (is_select c.command) _ _ plain tt
plain_if_select (Err e) plain = tt

pub version_plain : (schema : Schema) → IsPlainIf (understood schema read_version)
unfolding understood
version_plain schema = plain_either (reads_listing schema read_version) _ _ (plain_if_select _ (plain_compiled listing_schema)) (plain_compiled schema)

-- ---- what it says of the tables that it reads

shows_rows : (old new : State) (c : Compiled) (rows : List Row) (returning : Option Returning) → returning ≡ None → ShowsRows old new read_version c [] rows returning
    → (db : Database) × IsSourceOf (reads_listing old.now.schema read_version) old.now db × Reads c.command db [] rows
shows_rows old new c rows None is h = (h.0, h.1, h.2)
shows_rows old new c rows (Some what) is h = absurd cc

shown_rows : (old new : State) (rows : List Row) → Shown read_version [] old new rows → ShowsVersions old.now rows
unfolding Shown
shown_rows old new rows h =
    let plain : IsPlainIf (Ok h.0) = subst IsPlainIf h.1.is (version_plain old.now.schema) in
    let it = shows_rows old new h.0 rows h.0.returning plain.0 (subst (λ formats. ShowsRows old new read_version h.0 (timed_at [] formats h.1.now) rows h.0.returning) plain.1 h.2) in
    record { read = h.0; meant = h.1.is; source = it.0; its = it.1; shown = it.2 }

-- a fault of SQL is none of the store
no_store_error : (cause : StoreError) (fault : CompileError) → SqlInputError fault ≡ store_error cause → ⊥
no_store_error OutOfMemory fault is = cc
no_store_error Io fault is = cc
no_store_error Corrupt fault is = cc
no_store_error Full fault is = cc
no_store_error Broken fault is = cc
no_store_error Unstorable fault is = cc

not_run : (old new : State) (fault : CompileError) → IsNotRun old new read_version [] (SqlInputError fault) → IsTrue old.is_open × HidesVersions old.now
unfolding IsNotRun
not_run old new fault (inl (inl hidden, same)) = (same.0.was_open, (hidden.0, hidden.1))
not_run old new fault (inl (inr other, same)) = absurd (elim other.2 [ inl many ↦ (let e = many.1 in cc) | inr (inl given) ↦ (let e = given.1 in cc) | inr (inr time) ↦ (let e = time.1 in cc) ])
not_run old new fault (inr fails) = absurd (no_store_error fails.0 fault fails.1)

refuses_none : (limit : Option ℕ) (command : Command) (db : Database) (fault : CompileError) → RefusesToRead limit command db [] (SqlInputError fault) → ⊥
refuses_none limit (Select q names) db fault h = elim h [ inl typed ↦ (let e = typed.0 in cc) | inr (inl over) ↦ (let e = over.0 in cc) | inr (inr stopped) ↦ (let e = stopped.0 in cc) ]
refuses_none limit (Rows values width names) db fault h = let e = h.0 in cc
refuses_none limit _ db fault h = let e : SqlInputError fault ≡ InvalidQuery = h in cc

not_shown : (old new : State) (fault : CompileError) (c : Compiled) (params : Row) (returning : Option Returning) → returning ≡ None → params ≡ [] → FailsToShow old new read_version c params (SqlInputError fault) returning → ⊥
not_shown old new fault c params None is none h = refuses_none old.step_limit c.command h.0 fault (subst (λ given. RefusesToRead old.step_limit c.command h.0 given (SqlInputError fault)) none h.2)
not_shown old new fault c params (Some what) is none h = absurd (let e = is in cc)

hidden_versions : (old new : State) (fault : CompileError) → FailsToQuery read_version [] old new (SqlInputError fault) → IsTrue old.is_open × HidesVersions old.now
unfolding FailsToQuery
hidden_versions old new fault (inl not) = not_run old new fault not
hidden_versions old new fault (inr h) =
    let plain : IsPlainIf (Ok h.0) = subst IsPlainIf h.1.is (version_plain old.now.schema) in
    absurd (not_shown old new fault h.0 _ h.0.returning plain.0 (ap (λ formats. timed_at [] formats h.1.now) plain.1) h.2)

-- the answer of a query tells of the tables that it reads, and that the connection was open
told : (version : ℕ) (old new : State) (other : Bool) → SaysOther version old new other → IsTrue old.is_open × TellsOther version old.now other
told version old new other (inl shown) = (shown_open read_version [] old new shown.0 shown.1, inl (shown.0, shown_rows old new shown.0 shown.1, shown.2))
told version old new other (inr ((fault, inl fails), is)) = let hidden = hidden_versions old new fault fails in (hidden.0, inr (hidden.1, is))
told version old new other (inr ((fault, inr late), is)) = absurd (let e = late.4 in cc)

-- the same of a connection on which a transaction began
pub version_told : (version : ℕ) (old begun after : State) → begun ≡ record old { in_transaction = true } → (r : Result Bool Error) → IfOk r (λ other. SaysOther version begun after other)
    → IfOk r (λ other. IsTrue old.is_open × TellsOther version old.now other)
version_told version old begun after is (Ok other) says =
    let it = told version begun after other says in
    (subst (λ (s : State). IsTrue s.is_open) is it.0, subst (λ (s : State). TellsOther version s.now other) is it.1)
version_told version old begun after is (Err e) says = tt

-- what is told of tables that stayed was so before
pub told_before : (version : ℕ) (old mid : State) → Stays old mid → (other is : Bool) → other ≡ is → IsTrue mid.is_open × TellsOther version mid.now other → TellsOther version old.now is
told_before version old mid stays other is same it = subst (λ db. TellsOther version db is) (stays it.0).1 (subst (TellsOther version mid.now) same it.1)
