use Rattle.book_machine.proofs.Common.{◌≡◌, subst, here_of, JudgesNeed}
use Rattle.book_office.specs.InForce.{AreUnlessGranted}
use Rattle.book_machine.proofs.AskingEach.{asks_read}
use Rattle.book_machine.proofs.Judging.{granted_at}
use Rattle.book_machine.proofs.machine.Machine.check_here.Goals as goal

pub returns-in-None : goal.returns-in-None
returns-in-None g c =
    let path = c.args.path.now in
    let circle = c.args.circle.now in
    let here = c.args.here.now in
    let set = c.args.set in
    asks_read _ _ c.in_ok-unless_granted.field-0 tt (λ o lists. AreUnlessGranted o path circle here set lists) (λ o r. here ≡ here_of o path → JudgesNeed o circle path set r)
    c.in_ok-unless_granted.ensures
    (λ o told is. granted_at o circle path set here is (subst (AreUnlessGranted o path circle here set) c.in-None.is told))
