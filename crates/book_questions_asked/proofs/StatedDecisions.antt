-- What is stated is decided as the Office decides.
use Rattle.book_questions_asked.proofs.Common.{◌≡◌, List, Bool, subst, sym, CircleOf, Caller, Leaf, Membership, Memberships, leading, set_of}
use Rattle.book_lists.proofs.OneOutcome.{one_circle}
use Rattle.book_lists.specs.Callers.{IsCircle}
use Rattle.book_lists.specs.declared.entries.Entry.{Entry}
use Rattle.book_lists.specs.declared.entries.Here.{Here}
use Rattle.book_lists_explain.specs.Answers.{IsAnswer}
use Rattle.book_office.specs.Levels.{effective_at}
use Rattle.book_office_listings.specs.Verdicts.{bare_entries, here_of}
use Rattle.book_questions_asked.specs.Laws.{StatedDecisionsAreTheOffices}
use Rattle.book_questions_asked.proofs.Leading.{leading_circle}

pub stated_decisions : StatedDecisionsAreTheOffices
stated_decisions o asked set stated answer is told =
    let here = here_of o asked.at in
    let entries = bare_entries (effective_at o asked.at) in
    let few : Memberships = set_of (leading is.circle is.pairs) in
    let a : IsAnswer few stated.caller stated.set stated.here stated.entries answer =
    subst (λ (ms : List Membership). IsAnswer (set_of ms) stated.caller stated.set stated.here stated.entries answer) is.members told in
    let b : IsAnswer few asked.caller stated.set stated.here stated.entries answer =
    subst (λ (c : Caller). IsAnswer few c stated.set stated.here stated.entries answer) is.caller a in
    let d : IsAnswer few asked.caller set stated.here stated.entries answer =
    subst (λ (s : Leaf → Bool). IsAnswer few asked.caller s stated.here stated.entries answer) is.set_is b in
    let e : IsAnswer few asked.caller set here stated.entries answer =
    subst (λ (h : Here). IsAnswer few asked.caller set h stated.entries answer) is.here d in
    let f : IsAnswer few asked.caller set here entries answer =
    subst (λ (es : List Entry). IsAnswer few asked.caller set here es answer) is.entries e in
    let whole : IsCircle (set_of is.pairs) asked.caller is.circle = subst (λ (ps : Memberships). IsCircle ps asked.caller is.circle) (sym is.all) is.is_circle in
    let same : is.circle ≡ f.circle = one_circle few asked.caller is.circle f.circle (leading_circle is.pairs is.circle asked.caller whole) f.expanded in
    record {
      circle = f.circle;
      outcome = f.outcome;
      granted = f.granted;
      expanded = subst (λ (c : CircleOf). IsCircle o.pairs asked.caller c) same is.is_circle;
      allowed = f.allowed;
      denied = f.denied;
      grants = f.grants;
      told = f.told;
    }
