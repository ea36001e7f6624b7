use Rattle.book_machine.proofs.Common.{◌≡◌, [], sym, subst, here_of, destination_in, JudgesNeeds}
use Rattle.book_rights.specs.Needs.{listed_others, listed_too}
use Rattle.book_machine.proofs.StagesInTurn.{asks_then}
use Rattle.book_machine.proofs.Judging.{then_needs}
use Rattle.book_machine.proofs.machine.Machine.check_others.Goals as goal

pub returns : goal.returns
returns g c =
    let circle = c.args.circle.now in
    let path = c.args.ready.now.target.path.now in
    let to = destination_in c.args.ready.now.asked in
    let rest = listed_too c.in-Some.third [] in
    asks_then _ _ _ c.in_ok-check_need.field-0 _ _ (λ o r. c.args.target.now ≡ here_of o path → JudgesNeeds o circle to path rest r) _ c.in_ok-check_need.ensures c.check_any.ensures
    (λ o stands first others is. subst (λ needs. JudgesNeeds o circle to path (listed_others needs) c.check_any.result) (sym c.in-Some.is)
    (then_needs o circle to path c.in-Some.second rest c.in_ok-check_need.field-0 _ (first is) (others is)))
