use Rattle.std.proofs.Common.{◌≡◌, Option, Some, None, refl, rules, subst}
use Rattle.book_desk_connections.specs.Rounds.{KeepsRound}
use Rattle.book_desk_connections.specs.declared.feeding.Lost.{Lost}
use Rattle.book_desk_loop.proofs.Serving.{goes_keeps, goes_lost, keeps_round, keeps_tried}
use Rattle.book_desk_loop.proofs.looping.Server.serve_round.Goals as goal

pub returns-in-Kept-None : goal.returns-in-Kept-None
returns-in-Kept-None g c =
    let s = c.args.self.now in
    let K : Option Lost → Type 0 = λ t. KeepsRound g.M.Service.serving s.connections c.round.new.self t in
    let none : c.in-Kept-None.field-0 ≡ None = search rules in
    goes_keeps g.S.Read.remaining g.S.Write.contents g.M.Service.serving g.F.Faults.tells s (record s { connections = c.round.new.self }) c.args.faults.now
    (keeps_round g.S.Read.remaining g.S.Write.contents g.M.Service.serving s (record s { connections = c.round.new.self }) (record { limits = refl; left = refl; held = refl }) refl (subst K none (c.round.ensures.kept c.in-Kept-None.field-0 c.in-Kept-None.is)))

pub returns-in-Kept-Some : goal.returns-in-Kept-Some
returns-in-Kept-Some g c =
    let s = c.args.self.now in
    let lost = c.in-Kept-Some.lost in
    let K : Option Lost → Type 0 = λ t. KeepsRound g.M.Service.serving s.connections c.round.new.self t in
    let some : c.in-Kept-Some.field-0 ≡ Some lost = search rules in
    let x = c.let_lost_go.ensures in
    goes_lost g.S.Read.remaining g.S.Write.contents g.M.Service.serving g.F.Faults.tells s (record s { connections = c.round.new.self }) c.let_lost_go.new.self lost c.args.faults.now c.let_lost_go.new.faults
    (record { limits = refl; left = refl; held = refl }) refl (subst K some (c.round.ensures.kept c.in-Kept-Some.field-0 c.in-Kept-Some.is)) x.goes x.told x.silent

pub returns-in-Undone : goal.returns-in-Undone
returns-in-Undone g c =
    let s = c.args.self.now in
    goes_keeps g.S.Read.remaining g.S.Write.contents g.M.Service.serving g.F.Faults.tells s (record s { connections = c.round.new.self }) c.args.faults.now
    (keeps_tried g.S.Read.remaining g.S.Write.contents g.M.Service.serving s (record s { connections = c.round.new.self }) (record { limits = refl; left = refl; held = refl }) refl (c.round.ensures.undone c.in-Undone.is))
