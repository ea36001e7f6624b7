-- What was foreseen of an edit is what it did.
use Rattle.std.proofs.Common.{◌≡◌, ℕ, ◌+◌, ◌≤◌, Bool, true, false, cond, List, [], ◌∷◌, map, Option, Some, None, option_map, unwrap_or, refl, sym, ap, ◌∙◌, subst, arith}
use Rattle.std.proofs.Math.Nat.{min-eq_left}
use Rattle.std.specs.FinMap.{get}
use Rattle.book_limits.specs.declared.TheConstants.{LAST_NUMBER}
use Rattle.book_office.proofs.Epochs.{epoch_after}
use Rattle.book_office.specs.Edits.{touches}
use Rattle.book_office.specs.Resources.{book_resource, node_of}
use Rattle.book_office.specs.Sound.{IsSound}
use Rattle.book_office.specs.declared.nodes.Node.{Node}
use Rattle.book_office_values.specs.declared.offices.Book.{Book}
use Rattle.book_office_values.specs.declared.offices.Office.{Office}
use Rattle.book_office_values.specs.declared.paths.Path.TheVariants as path
use Rattle.book_log_lines.specs.declared.lines.Touched.{Touched}
use Rattle.book_log_replies.proofs.ToldChanges.{made, made_nothing, step_makes}
use Rattle.book_log_replies.proofs.TouchedCards.{AreNext, IsNext, ahead_of, last_is, touched_next}
use Rattle.book_log_replies.specs.Effects.{both, card_if, cards_asked, effect_of, last_change, raises_asked, touched_at, touches_destination, touches_path}
use Rattle.book_machine.specs.Asking.{IsWellFormed}
use Rattle.book_machine.specs.Steps.{Steps}
use Rattle.book_machine.specs.declared.messages.Content.TheVariants as content
use Rattle.book_machine.specs.declared.messages.Reply.{Reply}
use Rattle.book_machine.specs.declared.messages.Request.{Request}
use Rattle.book_log_service.specs.Foreseeing.{ahead_by, book_number, foreseen, next_cards, next_of, raised_by}

-- ---- numbers
-- a number that a sound Office has is the last value of 64 bits at most
ahead_is : (n k : ℕ) → n + k ≤ LAST_NUMBER → ahead_by n k ≡ n + k
ahead_is n k low = min-eq_left (omega (arith, low))

number_was : (o : Office) (b : List ℕ) (old : Book) → get o.books b ≡ Some old → book_number o b ≡ old.changes.number
number_was o b old was = ap (λ (r : Option Book). unwrap_or (option_map (λ (node : Node). node.number) (option_map node_of (option_map book_resource r))) 0) was

-- a card's number is the one that was foreseen
card_foreseen : (o after : Office) → IsSound after → (k : ℕ) (card : List ℕ × List ℕ) → IsNext o after k card → next_of o k card ≡ touched_at after card
card_foreseen o after sound k card next =
    let low = (sound.books card.0 next.now.book next.now.at).1.last in
    let within = next.now.within in
    let number : book_number o card.0 ≡ next.old.changes.number = number_was o card.0 next.old next.was in
    let fits : next.old.changes.number + k ≤ LAST_NUMBER = omega (arith, low, within) in
    let same : ahead_by (book_number o card.0) k ≡ last_change after card.0 card.1 =
    ap (λ (n : ℕ). ahead_by n k) number ∙ ahead_is next.old.changes.number k fits ∙ sym (last_is after card _ next.now) in
    λ i. record { path = path.Card card.0 card.1; number = same i }

cards_foreseen : (o after : Office) → IsSound after → (r s : Option (List ℕ × List ℕ)) → AreNext o after (both r s) → next_cards o r s ≡ map (touched_at after) (both r s)
cards_foreseen o after sound None None next = refl
cards_foreseen o after sound None (Some y) next = ap (λ (t : Touched). t ∷ []) (card_foreseen o after sound 1 y next)
cards_foreseen o after sound (Some x) None next = ap (λ (t : Touched). t ∷ []) (card_foreseen o after sound 1 x next)
cards_foreseen o after sound (Some x) (Some y) next =
    λ i. card_foreseen o after sound 1 x next.0 i ∷ card_foreseen o after sound (ahead_of x.0 y.0) y next.1 i ∷ []

epoch_foreseen : (o after : Office) (raises : Bool) → IsSound after → after.epoch ≡ cond raises (o.epoch + 1) o.epoch → ahead_by o.epoch (raised_by raises) ≡ after.epoch
epoch_foreseen o after true sound is = let low = sound.epoch in ahead_is o.epoch 1 (omega (arith, low, is)) ∙ sym is
epoch_foreseen o after false sound is =
    let low = sound.epoch in
    let same : o.epoch + 0 ≡ o.epoch = omega arith in
    ahead_is o.epoch 0 (omega (arith, low, is)) ∙ same ∙ sym is

-- ---- an edit
all_foreseen : (o after : Office) (request : Request) → IsSound after → AreNext o after (cards_asked request.method request.path request.destination)
    → after.epoch ≡ cond (raises_asked request.method request.path request.body) (o.epoch + 1) o.epoch → foreseen o request ≡ effect_of after request
all_foreseen o after request sound next raised =
    let cards = cards_foreseen o after sound (card_if (touches_path request.method) request.path) (card_if (touches_destination request.method) request.destination) next in
    let epoch = epoch_foreseen o after (raises_asked request.method request.path request.body) sound raised in
    λ i. record { touched = cards i; epoch = Some (epoch i) }

pub foreseen_comes : (o after : Office) (name : Option (List ℕ)) (request : Request) (reply : Reply) → IsSound o → IsSound after → IsWellFormed request
    → Steps o name request reply after → reply.content ≡ content.Empty → foreseen o request ≡ effect_of after request
foreseen_comes o after name request reply sound later formed step empty =
    elim (step_makes o after name request reply sound formed step empty) [
      | made_nothing same names raises ↦
          all_foreseen o after request later (subst (AreNext o after) (sym names) tt)
          (ap (λ (a : Office). a.epoch) same ∙ ap (λ (b : Bool). cond b (o.epoch + 1) o.epoch) (sym raises))
      | made edit is fits names raises ↦
          let P : Office → Type 0 = λ a. AreNext o a (touches edit) in
          all_foreseen o after request later (subst (AreNext o after) names (subst P (sym is) (touched_next o edit fits.possible)))
          (ap (λ (a : Office). a.epoch) is ∙ epoch_after o edit ∙ ap (λ (b : Bool). cond b (o.epoch + 1) o.epoch) raises)
    ]
