use Rattle.book_policy_gaps.proofs.Common.{◌≡◌, ◌++◌, ◌∷◌, ◌∙◌, ◌+◌, [], take, ap, arith, subst, sym, take_more, take_all, read_by, bare_entries}
use Rattle.book_lists.specs.Deciders.{IsDeciders}
use Rattle.book_office_listings.specs.Scanning.{IsWalk}
use Rattle.book_policy_gaps.proofs.Granted.{read_one_more}
use Rattle.book_policy_gaps.proofs.places.walk.Goals as goal

pub loop-entry-preserved : goal.loop-entry-preserved
loop-entry-preserved c =
    let i = c.loop-entry.entry-index in
    let list = c.args.list.now in
    let entry = c.entry-item.result in
    let circle = c.args.circle.now in
    let here = c.args.here.now in
    let set = c.args.set in
    let before = read_by circle here (bare_entries (take i list)) in
    let more : take (i + 1) list ≡ take i list ++ entry ∷ [] = take_more list i entry (omega arith) ∙ ap (λ x. take i list ++ x ∷ []) (sym c.entry-item.is) in
    subst (λ readings. IsDeciders set readings c.over.new.self)
    (ap (λ one. before ++ read_by circle here one) c.from_ref.ensures.value
    ∙ read_one_more circle here (take i list) entry
    ∙ ap (λ es. read_by circle here (bare_entries es)) (sym more))
    (c.over.ensures.scanned set before c.loop-entry.invariant)

pub returns : goal.returns
returns c =
    subst (λ list. IsWalk list c.args.circle.now c.args.here.now c.args.set c.loop-entry.deciders)
    (take_all c.loop-entry.entry-index c.args.list.now c.loop-entry-test.false)
    c.loop-entry.invariant
