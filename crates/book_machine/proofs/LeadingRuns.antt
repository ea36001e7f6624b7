-- Where runs of the machine lead.
use Rattle.book_machine.proofs.Common.{◌≡◌, inl, inr, ℕ, List, [], ◌∷◌, ◌++◌, Option, Some, None, Result, Ok, Err, refl, sym, ap, subst, Office, IsSound, Edit, IsWellFormed, AreWellFormed, Call, calls_of, last_office, IsPlan, apply_any, settled, Reply, Request, Plan, Refusal}
use Rattle.std.proofs.Common.{String}
use Rattle.std.specs.declared.alloc.Global.{Global}
use Rattle.book_office_sync.specs.Copies.{Later}
use Rattle.book_office_sync.proofs.CopiesKept.{later_refl, later_trans, apply_later}
use Rattle.book_machine.specs.LeadingRuns.{StepsLeadOn, RunsLeadOn}
use Rattle.book_machine.specs.Runs.{call_of}
use Rattle.book_machine.proofs.FittingPlans.{plan_fits}

stays : (o p : Office) → p ≡ o → IsSound o → IsSound p × Later o p
stays o p is sound = (subst IsSound (sym is) sound, subst (Later o) (sym is) (later_refl o))

module _ (o : Office) (name : Option (List ℕ)) (request : Request) (sound : IsSound o) (named : IsWellFormed request) where
  edit_leads : (plan : Plan) (edit : Option Edit) → plan.edit ≡ edit → IsPlan o name request (Ok plan) → IsSound (apply_any o edit) × Later o (apply_any o edit)
  edit_leads plan None e planned = stays o o refl sound
  edit_leads plan (Some edit) e planned =
      let fits = plan_fits o request name plan edit sound named planned e in
      (fits.sound, apply_later o edit fits.possible)

  settled_leads : (result : Result Plan Refusal) → IsPlan o name request result → IsSound (settled o result).1 × Later o (settled o result).1
  settled_leads (Ok plan) planned = edit_leads plan plan.edit refl planned
  settled_leads (Err refusal) planned = stays o o refl sound

pub steps_lead_on : StepsLeadOn
steps_lead_on o p name request reply sound named serves = elim serves [
  | inl step ↦
      let is : p ≡ (settled o step.0).1 = ap (λ (x : Reply × Office). x.1) step.2 in
      subst (λ q. IsSound q × Later o q) (sym is) (settled_leads o name request sound named step.0 step.1)
  | inr none ↦ stays o p none.1 sound
]

pub runs_lead_on : RunsLeadOn
runs_lead_on o [] [] [] sound named run = stays o o refl sound
runs_lead_on o [] [] (after ∷ offices) sound named run = absurd run
runs_lead_on o [] (reply ∷ replies) offices sound named run = absurd run
runs_lead_on o (call ∷ calls) [] offices sound named run = absurd run
runs_lead_on o (call ∷ calls) (reply ∷ replies) [] sound named run = absurd run
runs_lead_on o (call ∷ calls) (reply ∷ replies) (after ∷ offices) sound named run =
    let step = steps_lead_on o after call.0 call.1 reply sound named.0 run.0 in
    let rest = runs_lead_on after calls replies offices step.0 named.1 run.1 in
    (rest.0, later_trans o after (last_office after offices) step.1 rest.1)

-- one more call
pub calls_more : (calls : List (Option (String Global) × Request)) (call : Option (String Global) × Request) → calls_of (calls ++ call ∷ []) ≡ calls_of calls ++ call_of call ∷ []
calls_more [] call = refl
calls_more (c ∷ calls) call = ap (λ rest. call_of c ∷ rest) (calls_more calls call)

pub well_formed_more : (calls : List Call) (call : Call) → AreWellFormed calls → IsWellFormed call.1 → AreWellFormed (calls ++ call ∷ [])
well_formed_more [] call have has = (has, tt)
well_formed_more (c ∷ calls) call have has = (have.0, well_formed_more calls call have.1 has)
