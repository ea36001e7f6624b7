-- What a line tells of an edit is what changed.
use Rattle.std.proofs.Common.{◌≡◌, ℕ, ◌≤◌, List, [], ◌∷◌, length, map, false, Option, Some, None, Result, Ok, Err, refl, sym, ap, ◌∙◌, subst, arith}
use Rattle.std.proofs.lemmas.List.Elements.{All-nil}
use Rattle.std.proofs.lemmas.Option.{same_Some}
use Rattle.std.specs.FinMap.{get}
use Rattle.book_office.specs.Edits.{apply, raises_epoch, touches}
use Rattle.book_office.specs.Sound.{Fits, IsSound}
use Rattle.book_office.specs.declared.edits.Edit.{Edit}
use Rattle.book_office_values.specs.declared.offices.Book.{Book}
use Rattle.book_office_values.specs.declared.offices.Office.{Office}
use Rattle.book_machine.proofs.FittingPlans.{plan_fits}
use Rattle.book_machine.specs.Asking.{IsWellFormed}
use Rattle.book_machine.specs.Refusals.{refused}
use Rattle.book_machine.specs.Steps.{IsPlan, Steps, apply_any, settled}
use Rattle.book_machine.specs.declared.messages.Content.TheVariants as content
use Rattle.book_machine.specs.declared.messages.Reply.{Reply}
use Rattle.book_machine.specs.declared.messages.Request.{Request}
use Rattle.book_machine.specs.declared.plans.Plan.{Plan}
use Rattle.book_machine.specs.declared.refusals.Refusal.{Refusal}
use Rattle.book_log_replies.specs.Effects.{both, card_if, cards_asked, effect_of, raises_asked, touched_at, touches_destination, touches_path}
use Rattle.book_log_replies.specs.Laws.{EditsTellTheirChanges, IsLastChange, TellsChanges}
use Rattle.book_log_replies.proofs.AskedEdits.{IsPlanned, plan_does, plans, plans_nothing}
use Rattle.book_log_replies.proofs.TouchedCards.{cards_told}

few_both : {A : Type 0} (r s : Option A) → length (both r s) ≤ 2
few_both None None = omega arith
few_both None (Some y) = omega arith
few_both (Some x) None = omega arith
few_both (Some x) (Some y) = omega arith

nothing_told : (o : Office) → TellsChanges o o []
nothing_told o = record {
  few = omega arith;
  each = All-nil (IsLastChange o);
  others = λ b c old new was now untold. ap (λ (book : Book). get book.changes.last c) (same_Some new old (sym now ∙ was));
}

-- what a step without a content did: nothing where the request names nothing, or an edit that fits
pub data IsMade (o after : Office) (request : Request) : Type 0 where
  made_nothing : after ≡ o → cards_asked request.method request.path request.destination ≡ []
      → raises_asked request.method request.path request.body ≡ false → IsMade o after request
  made : (edit : Edit) → after ≡ apply o edit → Fits o edit → touches edit ≡ cards_asked request.method request.path request.destination
      → raises_epoch o edit ≡ raises_asked request.method request.path request.body → IsMade o after request

pub step_makes : (o after : Office) (name : Option (List ℕ)) (request : Request) (reply : Reply) → IsSound o → IsWellFormed request
    → Steps o name request reply after → reply.content ≡ content.Empty → IsMade o after request
step_makes o after name request reply sound formed step empty = go step.0 step.1 step.2
  where
    go : (result : Result Plan Refusal) → IsPlan o name request result → (reply, after) ≡ settled o result → IsMade o after request
    go (Err e) planned settles = absurd (let h : content.Empty ≡ (refused e).content = sym empty ∙ ap (λ (x : Reply × Office). x.0.content) settles in cc)
    go (Ok plan) planned settles =
        let left : after ≡ apply_any o plan.edit = ap (λ (x : Reply × Office). x.1) settles in
        elim (plan_does o request name plan planned) [
          | plans_nothing none names raises ↦ made_nothing (left ∙ ap (apply_any o) none) names raises
          | plans edit is names raises ↦ made edit (left ∙ ap (apply_any o) is) (plan_fits o request name plan edit sound formed planned is) names raises
        ]

pub edits_told : EditsTellTheirChanges
edits_told o after name request reply sound formed step empty =
    let cards : List (List ℕ × List ℕ) = cards_asked request.method request.path request.destination in
    elim (step_makes o after name request reply sound formed step empty) [
      | made_nothing same names raises ↦
          let P : List (List ℕ × List ℕ) → Type 0 = λ list. TellsChanges o after (map (touched_at after) list) in
          subst P (sym names) (subst (λ (a : Office). TellsChanges o a []) (sym same) (nothing_told o))
      | made edit is fits names raises ↦
          let few : length (touches edit) ≤ 2 = subst (λ (list : List (List ℕ × List ℕ)). length list ≤ 2) (sym names)
          (few_both (card_if (touches_path request.method) request.path) (card_if (touches_destination request.method) request.destination)) in
          let P : Office → Type 0 = λ a. TellsChanges o a (map (touched_at a) cards) in
          let Q : List (List ℕ × List ℕ) → Type 0 = λ list. TellsChanges o (apply o edit) (map (touched_at (apply o edit)) list) in
          subst P (sym is) (subst Q names (cards_told o edit fits.possible few))
    ]
