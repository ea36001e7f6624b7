use Rattle.book_questions_changes.proofs.Common.{◌≡◌, ◌++◌, ◌∷◌, ◌+◌, [], take, sym, ap, arith, ◌∙◌, gathered, map}
use Rattle.std.proofs.Common.{not}
use Rattle.std.proofs.lemmas.List.{map-append, take_more}
use Rattle.std.proofs.lemmas.List.Elements.{filter-append}
use Rattle.std.specs.FinSet as set
use Rattle.book_lists.specs.declared.memberships.Membership.{Membership}
use Rattle.book_office_audit.proofs.Gathering.{gathered_both}
use Rattle.book_questions_changes.specs.Members.{missing_in, signed_block}
use Rattle.book_questions_changes.proofs.members.add_missing.Goals as goal

pub loop-membership-preserved : goal.loop-membership-preserved
loop-membership-preserved c =
    let i = c.loop-membership.membership-index in
    let xs = c.args.list.now in
    let m = c.membership-item.result in
    let others = c.args.others.now in
    let f = signed_block c.args.sign.now in
    let more : take (i + 1) xs ≡ take i xs ++ m ∷ [] = take_more xs i m (omega arith) ∙ ap (λ x. take i xs ++ x ∷ []) (sym c.membership-item.is) in
    let both : missing_in others (take (i + 1) xs) ≡ missing_in others (take i xs) ++ missing_in others (m ∷ []) =
    ap (missing_in others) more ∙ filter-append (λ (n : Membership). not (set.contains others n)) (take i xs) (m ∷ []) in
    c.in_ok-add_one.ensures
    ∙ ap (λ b. gathered b (map f (missing_in others (m ∷ [])))) c.loop-membership.invariant
    ∙ gathered_both c.args.blocks.now (map f (missing_in others (take i xs))) (map f (missing_in others (m ∷ [])))
    ∙ ap (gathered c.args.blocks.now) (sym (ap (map f) both ∙ map-append f (missing_in others (take i xs)) (missing_in others (m ∷ []))))
