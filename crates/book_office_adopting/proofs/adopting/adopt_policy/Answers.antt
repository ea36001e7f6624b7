use Rattle.book_office_adopting.proofs.Common.{◌≡◌, ◌+◌, rules, sym, ap, ◌∙◌, false≢true, entries, taken_over, bare, moved}
use Rattle.book_office_adopting.proofs.TakenOver.{stays, stays_bare, adopted_nothing, adopted}
use Rattle.book_office_adopting.proofs.adopting.adopt_policy.Goals as goal

pub returns-in-Ok-true-clause-ok : goal.returns-in-Ok-true-clause-ok
returns-in-Ok-true-clause-ok c =
    let t = c.args.policy.now in
    let o = c.args.office.now in
    let is : c.in_ok-new.new ≡ bare (taken_over t o) = search rules in
    adopted_nothing t o (stays t o (c.in-Ok-true.ensures.0 c.in-Ok-true.field-0-test ∙ ap bare is))

pub returns-in-Ok-false-clause-ok : goal.returns-in-Ok-false-clause-ok
returns-in-Ok-false-clause-ok c =
    let t = c.args.policy.now in
    let o = c.args.office.now in
    let is : c.in_ok-new.new ≡ bare (taken_over t o) = search rules in
    c.replace.ensures
    ∙ (λ i. record (is i) { books = moved (is i).books (entries o.books); epoch = o.epoch + 1 })
    ∙ adopted t o (λ stay. false≢true (sym c.in-Ok-false.field-0-test ∙ c.in-Ok-false.ensures.1 (stays_bare t o stay ∙ ap bare (sym is))))
