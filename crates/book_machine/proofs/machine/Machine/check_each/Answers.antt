use Rattle.book_machine.proofs.Common.{◌≡◌, here_of, destination_in, JudgesNeeds}
use Rattle.book_rights.specs.Needs.{listed_others}
use Rattle.book_machine.proofs.StagesInTurn.{asks_then}
use Rattle.book_machine.proofs.Judging.{then_needs}
use Rattle.book_machine.proofs.machine.Machine.check_each.Goals as goal

pub returns : goal.returns
returns g c =
    let needs = c.args.needs in
    let circle = c.args.circle.now in
    let path = c.args.ready.now.target.path.now in
    let to = destination_in c.args.ready.now.asked in
    asks_then _ _ _ c.in_ok-check_need.field-0 _ _ (λ o r. c.args.target.now ≡ here_of o path → JudgesNeeds o circle to path (listed_others needs.others) r) _ c.in_ok-check_need.ensures c.check_others.ensures
    (λ o stands first others is. then_needs o circle to path needs.first (listed_others needs.others) c.in_ok-check_need.field-0 _ (first is) (others is))
