use Rattle.book_desk_connections.proofs.Common.{◌<◌, length, None, arith}
use Rattle.std.proofs.Common.{◌≤◌}
use Rattle.std.proofs.lemmas.List.{get_or-set_same, get_or_past}
use Rattle.book_desk_connections.proofs.Histories.{lets_go}
use Rattle.book_desk_connections.proofs.connections.Connections.let_go.Goals as goal

pub returns-then-place-len-clause-served : goal.returns-then-place-len-clause-served
returns-then-place-len-clause-served g c histories log s =
    let places = c.args.self.now.places.items in
    let within : c.args.place < length places = (let l = c.len.ensures in let t = c.if-place-len.true in omega (arith, l, t)) in
    lets_go histories log c.args.self.now.opened places c.args.place s within

pub returns-then-place-len-clause-gone : goal.returns-then-place-len-clause-gone
returns-then-place-len-clause-gone g c =
    let places = c.args.self.now.places.items in
    let within : c.args.place < length places = (let l = c.len.ensures in let t = c.if-place-len.true in omega (arith, l, t)) in
    get_or-set_same places c.args.place None None within

pub returns-else-place-len-clause-gone : goal.returns-else-place-len-clause-gone
returns-else-place-len-clause-gone g c =
    let places = c.args.self.now.places.items in
    let beyond : length places ≤ c.args.place = (let l = c.len.ensures in let t = c.if-place-len.false in omega (arith, l, t)) in
    get_or_past places c.args.place None beyond
