use Rattle.book_questions_stays.proofs.Common.{◌≡◌, ◌++◌, ◌∷◌, ◌∙◌, ◌+◌, [], take, sym, ap, arith, gathered, map}
use Rattle.std.proofs.Common.{filter}
use Rattle.std.proofs.lemmas.List.{map-append, take_more}
use Rattle.std.proofs.lemmas.List.Elements.{filter-append}
use Rattle.book_office_audit.proofs.Gathering.{gathered_both}
use Rattle.book_questions_stays.specs.Stays.{member_block, member_stays}
use Rattle.book_questions_stays.proofs.telling.add_members.Goals as goal

pub loop-membership-preserved : goal.loop-membership-preserved
loop-membership-preserved c =
    let i = c.loop-membership.membership-index in
    let xs = c.args.list.now in
    let m = c.membership-item.result in
    let test = member_stays c.args.policy.now in
    let more : take (i + 1) xs ≡ take i xs ++ m ∷ [] = take_more xs i m (omega arith) ∙ ap (λ x. take i xs ++ x ∷ []) (sym c.membership-item.is) in
    let both : filter test (take (i + 1) xs) ≡ filter test (take i xs) ++ filter test (m ∷ []) = ap (filter test) more ∙ filter-append test (take i xs) (m ∷ []) in
    c.in_ok-add_member.ensures
    ∙ ap (λ b. gathered b (map member_block (filter test (m ∷ [])))) c.loop-membership.invariant
    ∙ gathered_both c.args.blocks.now (map member_block (filter test (take i xs))) (map member_block (filter test (m ∷ [])))
    ∙ ap (gathered c.args.blocks.now) (sym (ap (map member_block) both ∙ map-append member_block (filter test (take i xs)) (filter test (m ∷ []))))
