-- Plans that are carried out step by step, and edits that are plans after reads.
use Rattle.std.proofs.Common.{OnOk, ◌<◌, ◌≤◌}
use Rattle.std.proofs.lemmas.List.{drop_more, drop_all}
use Rattle.book_tables_rows.proofs.Common.{◌≡◌, Ok, Err, Result, ℕ, ◌+◌, drop, get_or, length, List, ◌∷◌, find, Option, Some, None, option_map, refl, sym, ap, subst, ◌∙◌, ⊤, IsTrue, arith, Keeps, Database, Row, State, HasCleanDisk, Survives, FoundNode, Rows, rows_of, IsBook, is_at, Finds, ShowsEpoch, IsMeta, Told, told, told_of, Becomes, BecomesIf, Looks}
use Rattle.book_tables_rows.specs.Items.{item_count, pieces, written}
use Rattle.book_tables_rows.specs.Scripts.{fits, fit_all, plan_of, script, write, write_all}
use Rattle.book_tables_rows.specs.Plans.{Awaits, Makes, Plan, nothing}
use Rattle.book_tables_rows.specs.Steps.{Change}
use Rattle.book_tables_rows.specs.declared.items.Items.{Items}
use Rattle.book_tables_rows.specs.declared.items.Items.TheVariants.{Entries, Members, OldPairs, NewPairs, EntriesOf}
use Rattle.book_tables_rows.specs.declared.script.Statement.{Statement}
use Rattle.book_tables_rows.proofs.CardPuts.{told_row}
use Rattle.book_tables_rows.proofs.Keeping.{unseen_then}
use Rattle.book_tables_rows.proofs.ListSettings.{commit_stays}

-- ---- a plan on its way

pub not_begun : (old : State) (all : Plan) → IsTrue old.in_transaction → Awaits old old all all
not_begun old all inside = record { inside = inside; rows = λ book fit. (book, fit, (λ such. such), refl) }

pub goes_on : (old now new : State) (left mid all : Plan) → Awaits old now mid all → Awaits now new left mid → Awaits old new left all
goes_on old now new left mid all first second = record {
  inside = second.inside;
  rows = λ book fit. let x = first.rows book fit in let y = second.rows x.0 x.1 in (y.0, y.1, (λ such. x.2 (y.2 such)), y.3 ∙ x.3);
}

-- what is left needs and writes nothing
pub ends : (old now : State) (left all : Plan) → ((rows : Rows) → left.Such rows) → ((rows : Rows) → left.write rows ≡ rows) → Awaits old now left all → Awaits old now nothing all
ends old now left all such same far = record {
  inside = far.inside;
  rows = λ book fit. let x = far.rows book fit in (x.0, tt, (λ _. x.2 (such (rows_of now.now.trees))), sym (same (rows_of now.now.trees)) ∙ x.3);
}

-- steps that were made: what was committed stays whatever they answered, and a stop leaves nothing of them
pub record OnTheWay (old now : State) (left all : Plan) : Type 0 where
  pub survives : Survives old now (λ _. ⊥)
  pub kept : Keeps old now
  pub done : HasCleanDisk now → IsTrue old.in_transaction → Awaits old now left all

pub step_on : (old now new : State) (left mid all : Plan) → OnTheWay old now mid all → Survives now new (λ _. ⊥) → Keeps now new → (HasCleanDisk new → IsTrue now.in_transaction → Awaits now new left mid)
    → OnTheWay old new left all
step_on old now new left mid all far survives kept step =
    let before : HasCleanDisk new → HasCleanDisk now = λ clean. omega (arith, survives.clean, clean) in
    record {
      survives = unseen_then old now new far.survives survives;
      kept = λ clean inside. commit_stays old now new (far.kept (before clean) inside) (kept clean (far.done (before clean) inside).inside);
      done = λ clean inside. let at = far.done (before clean) inside in goes_on old now new left mid all at (step clean at.inside);
    }

-- two facts of one answer
pub both_ok : {A E : Type 0} (r : Result A E) (P Q : Type 0) → OnOk r P → OnOk r Q → OnOk r (P × Q)
both_ok (Ok a) P Q p q = (p, q)
both_ok (Err e) P Q p q = tt

-- one plan after another
abbrev pub chained : Plan → Plan → Plan
chained p q = record { Fits = λ rows. p.Fits rows × q.Fits (p.write rows); Such = λ rows. p.Such rows × q.Such (p.write rows); write = λ rows. q.write (p.write rows) }

pub and_then : (a b c : State) (p q : Plan) → Awaits a b nothing p → Awaits b c nothing q → Awaits a c nothing (chained p q)
and_then a b c p q first second = record {
  inside = second.inside;
  rows = λ book fit.
      let x = first.rows book fit.0 in
      let y = second.rows x.0 (subst q.Fits (sym x.3) fit.1) in
      (y.0, tt, (λ _. (x.2 tt, subst q.Such x.3 (y.2 tt))), y.3 ∙ ap q.write x.3);
}

-- a plan after reads, told in other words
pub said_so : (old before new : State) (all other : Plan) → Looks old before → Awaits before new nothing all
    → (IsBook old.now → other.Fits (rows_of old.now.trees) → all.Fits (rows_of old.now.trees)
    × (all.Such (rows_of old.now.trees) → other.Such (rows_of old.now.trees)) × (all.write (rows_of old.now.trees) ≡ other.write (rows_of old.now.trees)))
    → Awaits old new nothing other
said_so old before new all other looks ran means = record {
  inside = ran.inside;
  rows = λ book fit.
      let same : before.now ≡ old.now = looks.same book in
      let it = means book fit in
      let x = ran.rows (subst IsBook (sym same) book) (subst (λ (d : Database). all.Fits (rows_of d.trees)) (sym same) it.0) in
      (x.0, tt, (λ _. it.1 (subst (λ (d : Database). all.Such (rows_of d.trees)) same (x.2 tt))), x.3 ∙ ap (λ (d : Database). all.write (rows_of d.trees)) same ∙ it.2);
}

-- ---- statements in turn

pub becomes_if : (old new : State) (s : Statement) → BecomesIf old new (fits s) (write s) → Awaits old new nothing (plan_of s)
becomes_if old new s h = record { inside = h.inside; rows = λ book fit. let x = h.rows book fit in (x.0, tt, (λ _. tt), x.1) }

pub becomes : (old new : State) (w : Rows → Rows) → Becomes old new w → Awaits old new nothing (record { Fits = λ rows. ⊤; Such = λ rows. ⊤; write = w })
becomes old new w h = record { inside = h.inside; rows = λ book fit. let x = h.rows book in (x.0, tt, (λ _. tt), x.1) }

-- the first of some statements was run
pub first_run : (now new : State) (s : Statement) (rest : List Statement) → Awaits now new nothing (plan_of s) → Awaits now new (script rest) (script (s ∷ rest))
first_run now new s rest step = record {
  inside = step.inside;
  rows = λ book fit. let x = step.rows book fit.0 in (x.0, subst (fit_all rest) (sym x.3) fit.1, (λ _. tt), ap (write_all rest) x.3);
}

pub next_run : (now new : State) (ss : List Statement) (i : ℕ) (s : Statement) → i < length ss → get_or ss i s ≡ s → Awaits now new nothing (plan_of s) → Awaits now new (script (drop (i + 1) ss)) (script (drop i ss))
next_run now new ss i s below is step =
    subst (λ xs. Awaits now new (script (drop (i + 1) ss)) (script xs)) (sym (drop_more ss i s below ∙ ap (λ x. x ∷ drop (i + 1) ss) is)) (first_run now new s (drop (i + 1) ss) step)

pub no_statement : (old now : State) (all : Plan) (ss : List Statement) (i : ℕ) → length ss ≤ i → Awaits old now (script (drop i ss)) all → Awaits old now nothing all
no_statement old now all ss i over far = subst (λ xs. Awaits old now (script xs) all) (drop_all i ss over) far

-- an item is written
pub one_item : (old new : State) (items : Items) (place : ℕ) (one : Rows → Rows) → Becomes old new one → ((rows : Rows) → written items place rows ≡ written items (place + 1) (one rows))
    → Awaits old new (pieces items (place + 1)) (pieces items place)
one_item old new items place one h next = record {
  inside = h.inside;
  rows = λ book fit. let x = h.rows book in (x.0, tt, (λ _. tt), ap (written items (place + 1)) x.1 ∙ sym (next (rows_of old.now.trees)));
}

-- the item at a place is the next of what is left
pub next_item : {A : Type 0} (list : List A) (place : ℕ) (item : A) → place < length list → item ≡ get_or list place item → drop place list ≡ item ∷ drop (place + 1) list
next_item list place item within is = drop_more list place item within ∙ ap (λ x. x ∷ drop (place + 1) list) (sym is)

-- nothing of a list is left behind its last item
pub no_item : (items : Items) (place : ℕ) → item_count items ≤ place → (rows : Rows) → written items place rows ≡ rows
no_item (Entries node protected list) place over rows = rw (drop_all place list.now over) refl
no_item (Members group members) place over rows = rw (drop_all place members.now over) refl
no_item (OldPairs pairs) place over rows = rw (drop_all place pairs.now over) refl
no_item (NewPairs pairs) place over rows = rw (drop_all place pairs.now over) refl
no_item (EntriesOf given) place over rows = rw (drop_all place given.now over) refl

-- ---- edits

-- the row that a look-up told of
pub record IsThere (rows : Rows) (path : List ℕ) (f : FoundNode) : Type 0 where
  pub row : Row
  pub there : find (is_at path) rows.nodes ≡ Some row
  pub tells : told_of row ≡ told f

pub is_there : (s : State) (path : List ℕ) (f : FoundNode) (found : Option FoundNode) → found ≡ Some f → Finds s path (option_map told found) → IsBook s.now → IsThere (rows_of s.now.trees) path f
is_there s path f found is finds book = let x = told_row f (find (is_at path) (rows_of s.now.trees).nodes) (sym (ap (option_map told) is) ∙ finds.1 book) in record { row = x.0; there = x.1; tells = x.2 }

-- the same after a read
pub is_there_then : (old s : State) (path : List ℕ) (f : FoundNode) (found : Option FoundNode) → Looks old s → found ≡ Some f → Finds s path (option_map told found) → IsBook old.now → IsThere (rows_of old.now.trees) path f
is_there_then old s path f found looks is finds book =
    let same : s.now ≡ old.now = looks.same book in
    subst (λ (d : Database). IsThere (rows_of d.trees) path f) same (is_there s path f found is finds (subst IsBook (sym same) book))

-- no row is at a path
none_told : (found : Option Row) → ◌≡◌ {A = Option Told} None (option_map told_of found) → found ≡ None
none_told None e = refl
none_told (Some row) e = absurd cc

pub none_there_then : (old s : State) (path : List ℕ) (found : Option FoundNode) → Looks old s → found ≡ None → Finds s path (option_map told found) → IsBook old.now → find (is_at path) (rows_of old.now.trees).nodes ≡ None
none_there_then old s path found looks none finds book =
    let same : s.now ≡ old.now = looks.same book in
    subst (λ (d : Database). find (is_at path) (rows_of d.trees).nodes ≡ None) same (none_told _ (sym (ap (option_map told) none) ∙ finds.1 (subst IsBook (sym same) book)))

-- the epoch that was read after a read
pub epoch_then : (old s : State) (epoch : ℕ) → Looks old s → ShowsEpoch s epoch → IsBook old.now → (n : ℕ) → IsMeta (rows_of old.now.trees).meta n → epoch ≡ n
epoch_then old s epoch looks shows book n meta =
    let same : s.now ≡ old.now = looks.same book in
    shows.1 (subst IsBook (sym same) book) n (subst (λ (d : Database). IsMeta (rows_of d.trees).meta n) (sym same) meta)

-- after its reads an edit carries out a plan, and what the plan makes is the change
pub edits : (old before new : State) (change : Change) (all : Plan) → IsTrue old.is_open → Looks old before → Awaits before new nothing all
    → (IsBook old.now → change.Fits (rows_of old.now.trees) → all.Fits (rows_of old.now.trees) × (all.Such (rows_of old.now.trees) → change.Makes (rows_of old.now.trees) (all.write (rows_of old.now.trees))))
    → Makes old new change
edits old before new change all was_open looks ran makes = record {
  inside = ran.inside;
  was_open = was_open;
  made = λ book fit.
      let it = makes book fit in
      let x = (said_so old before new all all looks ran (λ _ fits. (fits, (λ such. such), refl))).rows book it.0 in
      (x.0, subst (change.Makes (rows_of old.now.trees)) (sym x.3) (it.1 (x.2 tt)));
}
