-- A reply that can't be spelled is told as unavailable: it changed nothing.
use Rattle.book_wire.proofs.Common.{◌≡◌, ◌∙◌, ◌++◌, ℕ, List, [], Bool, true, false, Option, Some, refl, sym, subst, append-nil, Serving, Reply, Request}
use Rattle.std.proofs.lemmas.Bool.{false≢true}
use Rattle.std.proofs.Common.{Result, Ok, Err, IfOk, IfErr, IsOk, OnOk}
use Rattle.book_machine.specs.Laws.{TellingRepliesChangeNothing}
use Rattle.book_wire_serving.proofs.Servings.{owed_noted, owed_unavailable}
use Rattle.book_wire_serving.specs.Serving.{Owes, NotesOwed, ServesAny}
use Rattle.book_wire.specs.Sending.{IsBegun, IsSentAs, as_sent}
use Rattle.book_wire_serving.specs.declared.faults.StreamFault.{StreamFault}
use Rattle.book_wire_serving.specs.declared.faults.StreamFault.TheVariants.{Write}

-- what was owed for a request was noted, as its reply was sent
pub noted_serves : TellingRepliesChangeNothing → (old mid new : Serving) (owed : Bool → List ℕ) (name : Option (List ℕ)) (request : Request)
    (reply sent : Reply) (as_made : Bool)
    → Owes old mid owed name request reply → NotesOwed mid new (owed as_made) → IsSentAs as_made reply sent
    → ServesAny old new name (Some request) sent
noted_serves law old mid new owed name request reply sent true o n is =
    let P : Reply → Type 0 = λ r. ServesAny old new name (Some request) r in
    subst P (sym is) (owed_noted old mid new owed name request reply o n)
noted_serves law old mid new owed name request reply sent false o n is =
    let P : Reply → Type 0 = λ r. ServesAny old new name (Some request) r in
    subst P (sym is.1) (owed_unavailable law old mid new owed name request reply o is.0 n)

-- what holds of an Ok, where it is one
pub at_ok : {A E : Type 0} (P : Type 0) (r : Result A E) → IsOk r → OnOk r P → P
at_ok P (Ok x) is p = p
at_ok P (Err e) is p = absurd (false≢true is)

-- Over a text for each reply, and what was to be sent before and is afterwards.
module _ (law : TellingRepliesChangeNothing) (old mid new : Serving) (owed : Bool → List ℕ) (name : Option (List ℕ)) (request : Request) (reply : Reply)
    (text : Reply → List ℕ) (before after : List ℕ) (owes : Owes old mid owed name request reply) where
  -- the reply was added, and noted
  pub sent_whole : (sent : Result Bool StreamFault) → NotesOwed mid new (owed (as_sent sent)) → sent ≡ Ok (as_sent sent)
      → IfOk sent (λ as_made. (r : Reply) × IsSentAs as_made reply r × (after ≡ before ++ text r))
      → (r : Reply) × ServesAny old new name (Some request) r × (after ≡ before ++ text r)
  sent_whole (Ok as_made) noted is x = (x.0, noted_serves law old mid new owed name request reply x.0 as_made owes noted x.1, x.2)
  sent_whole (Err e) noted is x = absurd (cc is)

  -- it was added, or nothing was; and noted, or that failed
  pub sent_begun : (sent : Result Bool StreamFault) → NotesOwed mid new (owed (as_sent sent))
      → IfOk sent (λ as_made. (r : Reply) × IsSentAs as_made reply r × (after ≡ before ++ text r))
      → IfErr sent (λ e. (e ≡ Write) × (after ≡ before))
      → (r : Reply) × ServesAny old new name (Some request) r × IsBegun before (text r) after
  sent_begun (Ok as_made) noted x y = (
    x.0,
    noted_serves law old mid new owed name request reply x.0 as_made owes noted x.1,
    record { front = text x.0; left = []; cut = sym (append-nil (text x.0)); added = x.2 },
  )
  sent_begun (Err e) noted x y = (
    reply,
    owed_noted old mid new owed name request reply owes noted,
    record { front = []; left = text reply; cut = refl; added = y.1 ∙ sym (append-nil before) },
  )

-- a refusal was added, or nothing was
pub refusal_begun : (text before after : List ℕ) (sent : Result (Unit {0}) StreamFault)
    → OnOk sent (after ≡ before ++ text) → IfErr sent (λ e. (e ≡ Write) × (after ≡ before)) → IsBegun before text after
refusal_begun text before after (Ok done) x y = record { front = text; left = []; cut = sym (append-nil text); added = x }
refusal_begun text before after (Err e) x y = record { front = []; left = text; cut = refl; added = y.1 ∙ sym (append-nil before) }
