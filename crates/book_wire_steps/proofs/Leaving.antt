-- What a stop may leave after steps.
use Rattle.std.proofs.Common.{◌≡◌, ◌⊎◌, inl, inr, List, [], ◌∷◌, Result, Ok, Err, OnOk}
use Rattle.book_policy_values.specs.declared.parts.PolicyTables.{PolicyTables}
use Rattle.book_office_adopting.specs.Adopting.{adopt}
use Rattle.book_office.specs.Keeping.{Leftover, Standing, whole}
use Rattle.book_office_values.specs.declared.offices.Office.{Office}
use Rattle.book_machine.specs.Promises.{AdoptPromise}
use Rattle.book_machine.specs.Runs.{last_office, MayLeaveAfter}
use Rattle.book_machine.specs.declared.adoptions.AdoptFault.{AdoptFault}
use Rattle.book_machine.specs.declared.adoptions.Adopted.{Adopted}
use Rattle.book_wire_serving.specs.Rounds.{MayLeaveTried}
use Rattle.book_wire_serving.specs.Serving.{Answered, calls_answered, replies_of}
use Rattle.book_wire_serving.proofs.Servings.{after_weaker}
use Rattle.book_wire_steps.specs.Steps.{Step, LeaveAfter, MayLeaveAdopting}
use Rattle.book_wire_steps.specs.Steps.Step.{serves, tries, adopts}

tried_weaker : (P Q : Leftover → Type 0) (o : Office) (answered : List Answered) (x : Leftover)
    → ((y : Leftover) → P y → Q y) → P x ⊎ MayLeaveTried P o answered x → Q x ⊎ MayLeaveTried Q o answered x
tried_weaker P Q o answered x f (inl was) = inl (f x was)
tried_weaker P Q o answered x f (inr t) =
    inr (t.0, t.1, after_weaker P Q o (calls_answered answered) (replies_of answered) t.0 x f t.2)

adopting_weaker : (P Q : Leftover → Type 0) (o : Office) (tables : PolicyTables) (outcome : Result Adopted AdoptFault) (x : Leftover)
    → ((y : Leftover) → P y → Q y) → MayLeaveAdopting P o tables outcome x → MayLeaveAdopting Q o tables outcome x
adopting_weaker P Q o tables outcome x f m = (elim m.0 [ inl was ↦ inl (f x was) | inr made ↦ inr made ], m.1)

-- what may be left grows with what could be left before
pub leave_weaker : (P Q : Leftover → Type 0) (o : Office) (steps : List Step) (x : Leftover)
    → ((y : Leftover) → P y → Q y) → LeaveAfter P o steps x → LeaveAfter Q o steps x
leave_weaker P Q o [] x f m = f x m
leave_weaker P Q o (serves answered ∷ steps) x f m = (
  m.0,
  m.1,
  leave_weaker (λ y. MayLeaveAfter P o (calls_answered answered) (replies_of answered) m.0 y)
      (λ y. MayLeaveAfter Q o (calls_answered answered) (replies_of answered) m.0 y) (last_office o m.0) steps x
      (λ y p. after_weaker P Q o (calls_answered answered) (replies_of answered) m.0 y f p) m.2,
)
leave_weaker P Q o (tries answered ∷ steps) x f m =
    leave_weaker (λ y. P y ⊎ MayLeaveTried P o answered y) (λ y. Q y ⊎ MayLeaveTried Q o answered y) o steps x
    (λ y p. tried_weaker P Q o answered y f p) m
leave_weaker P Q o (adopts tables outcome ∷ steps) x f m = (
  m.0,
  m.1,
  leave_weaker (λ y. MayLeaveAdopting P o tables outcome y) (λ y. MayLeaveAdopting Q o tables outcome y) m.0 steps x
      (λ y p. adopting_weaker P Q o tables outcome y f p) m.2,
)

made_alone : (outcome : Result Adopted AdoptFault) (IsSo : Office → Type 0) (IsLeft : Leftover → Type 0) (tables : PolicyTables) (o : Office) (x : Leftover)
    → OnOk outcome ((p : Office) → IsSo p → (y : Leftover) → IsLeft y → y ≡ whole (adopt tables p))
    → IsSo o → IsLeft x → OnOk outcome (x ≡ whole (adopt tables o))
made_alone (Ok adopted) IsSo IsLeft tables o x made so left = made o so x left
made_alone (Err fault) IsSo IsLeft tables o x made so left = tt

-- after an adoption
pub leaves_adopting : (old new : Standing) (tables : PolicyTables) (outcome : Result Adopted AdoptFault) → AdoptPromise old new tables outcome
    → new.honest → (o : Office) → old.stands o → (x : Leftover) → new.left x → MayLeaveAdopting old.left o tables outcome x
leaves_adopting old new tables outcome promise h o stands x left =
    (promise.left h o stands x left, made_alone outcome old.stands new.left tables o x (promise.left_made h) stands left)
