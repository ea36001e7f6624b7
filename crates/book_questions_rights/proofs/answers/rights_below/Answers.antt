use Rattle.book_questions_rights.proofs.Common.{◌∙◌, List, ap, flat_map, map, subst}
use Rattle.book_lists.specs.declared.circles.Caller.{Caller}
use Rattle.book_office_audit.specs.Audits.{in_order}
use Rattle.book_questions_rights.specs.Askers.{AreAskers}
use Rattle.book_questions_rights.specs.Lines.{place_blocks}
use Rattle.book_questions_rights.specs.Places.{place_of}
use Rattle.book_office.proofs.Fallbacks.{then_falls}
use Rattle.book_questions_rights.proofs.answers.rights_below.Goals as goal

pub returns : goal.returns
returns g c =
    let first = c.in_ok-askers.ensures in
    let second = c.in_ok-paths.ensures in
    let third = c.in_ok-places.ensures in
    record {
      was_honest = λ h. first.was_honest (second.was_honest (third.was_honest h));
      falls = then_falls first.falls (then_falls second.falls third.falls);
      value = λ h o stands.
          let mid = third.was_honest h in
          let was = second.was_honest mid in
          let askers = first.value was o stands in
          let paths = second.value mid o (first.kept was o stands) in
          let places = third.value h o (second.kept mid o (first.kept was o stands)) in (
            c.in_ok-askers.askers.items,
            subst (λ (callers : List Caller). AreAskers o.pairs callers c.in_ok-askers.askers.items) c.as_slice.ensures askers,
            c.in_ok-told.ensures
                ∙ (λ i. in_order (flat_map (place_blocks c.args.shared (c.as_slice-3.ensures.value i))
                ((c.as_slice-4.ensures.value ∙ places ∙ ap (map (place_of o)) (c.as_slice-2.ensures.value ∙ paths)) i))),
          );
      kept = λ h o stands.
          let mid = third.was_honest h in
          let was = second.was_honest mid in
          third.kept h o (second.kept mid o (first.kept was o stands));
      left = λ h x left.
          let mid = third.was_honest h in
          first.left (second.was_honest mid) x (second.left mid x (third.left h x left));
      counted = third.counted ∙ second.counted ∙ first.counted;
    }
