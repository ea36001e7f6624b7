use Rattle.book_questions_differs.proofs.Common.{◌≡◌, ◌∙◌, Bool, true, ap, sym}
use Rattle.std.proofs.Common.{◌↔◌, ◌&&◌}
use Rattle.book_questions_rights.proofs.Alike.{alike_is}
use Rattle.book_questions_differs.proofs.equal_pairs.is_alike.Goals as goal

pub returns-then-same_owner : goal.returns-then-same_owner
returns-then-same_owner c =
    let own : (c.same_list.result ≡ true) ↔ (c.args.card.now.own ≡ c.args.other.now.own) = (
      λ h. sym c.as_slice.ensures ∙ c.same_list.ensures.0 h ∙ c.as_slice-then-same_owner.ensures,
      λ e. c.same_list.ensures.1 (c.as_slice.ensures ∙ e ∙ sym c.as_slice-then-same_owner.ensures),
    ) in
    ap (λ (b : Bool). b && c.same_list.result) (sym c.if-same_owner.true)
    ∙ alike_is c.args.card.now c.args.other.now c.same_owner.result c.same_list.result c.same_owner.ensures own
