use Rattle.book_lists_explain.proofs.Common.{◌≡◌, List, arith, subst, Entry, Allowed, IsDenial, IfDenied}
use Rattle.std.proofs.Common.{◌↔◌}
use Rattle.book_lists.specs.Decisions.{IsAllowed, IsGrantedSet}
use Rattle.book_lists_explain.proofs.Indexes.{index_fits}
use Rattle.book_lists_explain.proofs.explanations.answer.Goals as goal

pub answer_text-requires : goal.answer_text-requires
answer_text-requires c = index_fits c.deref.result.now c.in_ok-circle.circle c.args.question.now.here c.in-Some-need.need c.decide-outcome.result (omega arith) c.decide-outcome.ensures.denied

pub returns-clause-answered : goal.returns-clause-answered
returns-clause-answered c =
    let circle = c.in_ok-circle.circle in
    let here = c.args.question.now.here in
    let need = c.in-Some-need.need in
    let outcome = c.decide-outcome.result in
    let set = c.granted-granted.result in
    let A : List Entry → Type 0 = λ es. (outcome ≡ Allowed) ↔ IsAllowed es circle here need in
    let D : List Entry → Type 0 = λ es. IfDenied outcome (IsDenial es circle here need) in
    let G : List Entry → Type 0 = λ es. IsGrantedSet es circle here set in (
      c.in-Some.caller,
      need,
      c.in-Some.is,
      c.in-Some-need.is,
      record {
        circle = circle;
        outcome = outcome;
        granted = set;
        expanded = c.in_ok-circle.ensures;
        allowed = subst A c.deref.ensures.value c.decide-outcome.ensures.allowed;
        denied = subst D c.deref.ensures.value c.decide-outcome.ensures.denied;
        grants = subst G c.deref-2.ensures.value c.granted-granted.ensures;
        told = c.in_ok-answer_text.ensures;
      },
    )
