-- What a keeper in memory and the machine over it promise, in the words of the Office.
use Rattle.std.proofs.Common.{◌≡◌, ℕ, List, Option, refl, sym, ◌∙◌, subst}
use Rattle.std.specs.Prelude.{Result, Ok, Err, IfErr, IfOk, OnOk}
use Rattle.book_office.specs.Edits.{apply}
use Rattle.book_office.specs.Keeping.{Edits, Reads, in_memory}
use Rattle.book_office.specs.Sound.{Fits, IsSound}
use Rattle.book_office.specs.declared.edits.Edit.{Edit}
use Rattle.book_office.specs.declared.keepers.StoreFault.{StoreFault}
use Rattle.book_office_adopting.specs.Adopting.{adopt}
use Rattle.book_office_values.specs.declared.offices.Office.{Office}
use Rattle.book_policy_values.specs.declared.parts.PolicyTables.{PolicyTables}
use Rattle.book_machine.specs.Promises.{AdoptPromise, ServePromise}
use Rattle.book_machine.specs.Steps.{Serves}
use Rattle.book_machine.specs.declared.adoptions.Adopted.{Adopted}
use Rattle.book_machine.specs.declared.adoptions.AdoptFault.{AdoptFault}
use Rattle.book_machine.specs.declared.adoptions.AdoptFault.TheVariants.{Full, Unavailable}
use Rattle.book_machine.specs.declared.messages.Reply.{Reply}
use Rattle.book_machine.specs.declared.messages.Request.{Request}
use Rattle.book_policy_openings.specs.Openings.{IsRefused}

pub kept : {A : Type 0} (old new : Office) (result : Result A StoreFault) (Tells : Office → A → Type 0) → Reads (in_memory old) (in_memory new) result Tells → IsSound old → new ≡ old
kept old new result Tells reads sound = sym (reads.kept tt old (refl, sound)).0

pub told : {A : Type 0} (old new : Office) (result : Result A StoreFault) (Tells : Office → A → Type 0) → Reads (in_memory old) (in_memory new) result Tells → IfOk result (λ x. IsSound old → Tells old x)
told old new (Ok x) Tells reads = λ sound. reads.value tt old (refl, sound)
told old new (Err fault) Tells reads = tt

pub made : (old new : Office) (result : Result (Unit {0}) StoreFault) (edit : Edit) → Edits (in_memory old) (in_memory new) result edit → OnOk result (IsSound old → Fits old edit → new ≡ apply old edit)
made old new (Ok u) edit edits = λ sound fits. sym (edits.made tt old (refl, sound) fits).0
made old new (Err fault) edit edits = tt

pub made_sound : (old new : Office) (result : Result (Unit {0}) StoreFault) (edit : Edit) → Edits (in_memory old) (in_memory new) result edit → OnOk result (IsSound old → Fits old edit → IsSound new)
made_sound old new (Ok u) edit edits = λ sound fits. let m = edits.made tt old (refl, sound) fits in subst IsSound m.0 m.1
made_sound old new (Err fault) edit edits = tt

pub served : (old new : Office) (name : Option (List ℕ)) (request : Request) (reply : Reply) → ServePromise (in_memory old) (in_memory new) name request reply → IsSound old → Serves old name request reply new
served old new name request reply promise sound =
    let s = promise.served tt old (refl, sound) in subst (λ (after : Office). Serves old name request reply after) s.1.0 s.2

pub served_sound : (old new : Office) (name : Option (List ℕ)) (request : Request) (reply : Reply) → ServePromise (in_memory old) (in_memory new) name request reply → IsSound old → IsSound new
served_sound old new name request reply promise sound = let s = promise.served tt old (refl, sound) in subst IsSound s.1.0 s.1.1

pub adopted : (old new : Office) (t : PolicyTables) (result : Result Adopted AdoptFault) → AdoptPromise (in_memory old) (in_memory new) t result → OnOk result (IsSound old → new ≡ adopt t old)
adopted old new t (Ok a) promise = λ sound. let s = promise.adopted tt old (refl, sound) in sym s.1.0 ∙ s.2.1
adopted old new t (Err fault) promise = tt

pub adopted_sound : (old new : Office) (t : PolicyTables) (result : Result Adopted AdoptFault) → AdoptPromise (in_memory old) (in_memory new) t result → OnOk result (IsSound old → IsSound new)
adopted_sound old new t (Ok a) promise = λ sound. let s = promise.adopted tt old (refl, sound) in subst IsSound s.1.0 s.1.1
adopted_sound old new t (Err fault) promise = tt

pub not_adopted : (old new : Office) (t : PolicyTables) (result : Result Adopted AdoptFault) → AdoptPromise (in_memory old) (in_memory new) t result → IfErr result (IsRefused t old)
not_adopted old new t (Ok a) promise = tt
not_adopted old new t (Err Full) promise = λ sound. (promise.adopted tt old (refl, sound)).2.0
not_adopted old new t (Err Unavailable) promise = tt
