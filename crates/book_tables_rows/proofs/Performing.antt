-- Functions that read, carry out a plan, and so make a change.
use Rattle.book_tables_rows.proofs.Common.{◌≡◌, ◌∙◌, arith, List, ℕ, Option, Some, option_map, Result, IsTrue, State, HasCleanDisk, Survives, FoundNode, rows_of, IsBook, Finds, told, Looks}
use Rattle.sqlite.specs.declared.error.Error.{Error}
use Rattle.book_tables_rows.specs.Plans.{Awaits, Goes, Makes, Performs, Plan, nothing}
use Rattle.book_tables_rows.specs.Steps.{Change}
use Rattle.book_tables_rows.proofs.InScript.{IsThere, edits, is_there}
use Rattle.book_tables_rows.proofs.Keeping.{on_ok}

-- after its reads it carries out a plan
pub performs_after : (old s new : State) (r : Result (Unit {0}) Error) (change : Change) (all : Plan) → Survives s new (λ _. ⊥)
    → (HasCleanDisk s → IsTrue old.is_open × Looks old s × (IsBook old.now → change.Fits (rows_of old.now.trees)
    → all.Fits (rows_of old.now.trees) × (all.Such (rows_of old.now.trees) → change.Makes (rows_of old.now.trees) (all.write (rows_of old.now.trees)))))
    → Goes s new r nothing all → Performs old new r change
performs_after old s new r change all survives seen goes clean inside =
    let clean_s : HasCleanDisk s = omega (arith, survives.clean, clean) in
    let it = seen clean_s in
    on_ok r (Awaits s new nothing all) (Makes old new change) (λ ran. edits old s new change all it.0 it.1 ran it.2) (goes clean (it.1.mode ∙ inside))

-- one that looks up a node, and then carries out a plan
pub performs : (old s new : State) (r : Result (Unit {0}) Error) (change : Change) (all : Plan) (path : List ℕ) (f : FoundNode) (found : Option FoundNode) → Survives s new (λ _. ⊥) → (HasCleanDisk s → Looks old s) → found ≡ Some f
    → (HasCleanDisk s → Finds old path (option_map told found)) → Goes s new r nothing all
    → (IsThere (rows_of old.now.trees) path f → change.Fits (rows_of old.now.trees)
    → all.Fits (rows_of old.now.trees) × (all.Such (rows_of old.now.trees) → change.Makes (rows_of old.now.trees) (all.write (rows_of old.now.trees))))
    → Performs old new r change
performs old s new r change all path f found survives looks is finds goes makes =
    performs_after old s new r change all survives (λ clean. ((finds clean).0, looks clean, λ book fits. makes (is_there old path f found is (finds clean) book) fits)) goes
