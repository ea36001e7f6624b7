use Rattle.book_machine.proofs.Common.{◌≡◌, Some, Ok, sym, ap, ◌∙◌, node_at, MeetsAny, IsListed}
use Rattle.book_office_listings.specs.Listings.{AreResponses}
use Rattle.book_machine.proofs.AskingEach.{asks_read}
use Rattle.book_machine.proofs.Planning.{listed_at}
use Rattle.book_machine.proofs.StagesInTurn.{asks_then}
use Rattle.book_machine.proofs.machine.Machine.listed.Goals as goal

pub returns : goal.returns
returns g c =
    let find = c.args.find.now in
    let circle = c.args.circle.now in
    let path = c.args.path.now in
    let found = c.in_ok-node.field-0 in
    let node = c.in-Some.node in
    let responses = c.in_ok-responses.responses in
    asks_then _ _ _ found (Ok c.replied.result) (λ o r. found ≡ node_at o path) (λ o r. node_at o path ≡ Some node → MeetsAny (IsListed o circle find path (node_at o path)) r)
    (λ o r. MeetsAny (IsListed o circle find path (node_at o path)) r)
    (asks_read _ _ found found (λ o n. n ≡ node_at o path) (λ o r. found ≡ node_at o path) c.in_ok-node.ensures (λ o is. is))
    (asks_read _ _ responses c.replied.result (λ o rs. node_at o path ≡ Some node → AreResponses find circle o path rs)
    (λ o r. node_at o path ≡ Some node → MeetsAny (IsListed o circle find path (node_at o path)) r) c.in_ok-responses.ensures
    (λ o are there. listed_at o circle find path (node_at o path) node responses (Ok c.replied.result) there (are there) (ap Ok c.replied.ensures)))
    (λ o stands is listed. listed (sym is ∙ c.in-Some.is))
