use Rattle.std.proofs.Common.{◌≡◌, Bool, true, false, refl, sym, ◌∙◌, subst}
use Rattle.book_desk_loop.proofs.Serving.{again_sound, done_sound, ended_at, ended_sound, failed_at, goes_keeps, no_line, serving_at, stopped_at, turned_at, waits_sound}
use Rattle.book_desk_loop.specs.Serving.{GoesOn}
use Rattle.book_desk_loop.proofs.looping.Server.serve.Goals as goal

pub returns-in-Failed-clause-goes : goal.returns-in-Failed-clause-goes
returns-in-Failed-clause-goes g c =
    let t = c.turn_at-turn.ensures in
    let told = c.tell_fault.ensures in
    let mid = c.turn_at-turn.new.self in
    let new = c.let_go.new.self in
    let P : g.row.F.Denot → Type 0 = λ t. GoesOn g.S.Read.remaining g.S.Write.contents g.M.Service.serving g.F.Faults.tells c.args.self.now c.args.faults.now new t in
    let failed : Bool = (g.M.Service.serving mid.connections.service).log.failed in
    (elim failed as (λ b. failed ≡ b → P c.tell_fault.new.faults) [
      | true ↦ λ is. subst P (sym (told.silent is))
          (stopped_at g.S.Read.remaining g.S.Write.contents g.M.Service.serving g.F.Faults.tells c.args.place c.args.self.now mid new c.turn_at-turn.result c.in-Failed.fault
          c.args.faults.now t.turns t.none c.in-Failed.is is c.let_go.ensures)
      | false ↦ λ is.
          failed_at g.S.Read.remaining g.S.Write.contents g.M.Service.serving g.F.Faults.tells c.args.place c.args.self.now mid new c.turn_at-turn.result c.in-Failed.fault
          c.args.faults.now c.tell_fault.new.faults t.turns t.none c.requires c.in-Failed.is (told.told is) c.let_go.ensures
    ]) refl

pub returns-in-Failed-clause-serves : goal.returns-in-Failed-clause-serves
returns-in-Failed-clause-serves g c line at = absurd (no_line line (sym c.let_go.ensures.line ∙ at))

pub returns-in-Waits-clause-goes : goal.returns-in-Waits-clause-goes
returns-in-Waits-clause-goes g c =
    let t = c.turn_at-turn.ensures in
    goes_keeps g.S.Read.remaining g.S.Write.contents g.M.Service.serving g.F.Faults.tells c.args.self.now c.turn_at-turn.new.self c.args.faults.now
    (turned_at g.S.Read.remaining g.S.Write.contents g.M.Service.serving c.args.place c.args.self.now c.turn_at-turn.new.self c.turn_at-turn.result t.turns t.none c.requires
    (λ fault e. waits_sound fault c.turn_at-turn.result c.in-Waits.is e))

pub returns-in-Waits-clause-serves : goal.returns-in-Waits-clause-serves
returns-in-Waits-clause-serves g c =
    let t = c.turn_at-turn.ensures in
    serving_at g.S.Read.remaining g.S.Write.contents g.M.Service.serving c.args.place c.args.self.now c.turn_at-turn.new.self c.turn_at-turn.result t.turns t.none c.requires

pub returns-in-Waits-clause-ended : goal.returns-in-Waits-clause-ended
returns-in-Waits-clause-ended g c e =
    let t = c.turn_at-turn.ensures in
    ended_at g.S.Read.remaining g.S.Write.contents g.M.Service.serving c.args.place c.args.self.now c.turn_at-turn.new.self c.turn_at-turn.result t.turns t.none c.requires e (t.ended e)

pub returns-in-Again-clause-goes : goal.returns-in-Again-clause-goes
returns-in-Again-clause-goes g c =
    let t = c.turn_at-turn.ensures in
    goes_keeps g.S.Read.remaining g.S.Write.contents g.M.Service.serving g.F.Faults.tells c.args.self.now c.turn_at-turn.new.self c.args.faults.now
    (turned_at g.S.Read.remaining g.S.Write.contents g.M.Service.serving c.args.place c.args.self.now c.turn_at-turn.new.self c.turn_at-turn.result t.turns t.none c.requires
    (λ fault e. again_sound fault c.turn_at-turn.result c.in-Again.is e))

pub returns-in-Again-clause-serves : goal.returns-in-Again-clause-serves
returns-in-Again-clause-serves g c =
    let t = c.turn_at-turn.ensures in
    serving_at g.S.Read.remaining g.S.Write.contents g.M.Service.serving c.args.place c.args.self.now c.turn_at-turn.new.self c.turn_at-turn.result t.turns t.none c.requires

pub returns-in-Again-clause-ended : goal.returns-in-Again-clause-ended
returns-in-Again-clause-ended g c e =
    let t = c.turn_at-turn.ensures in
    ended_at g.S.Read.remaining g.S.Write.contents g.M.Service.serving c.args.place c.args.self.now c.turn_at-turn.new.self c.turn_at-turn.result t.turns t.none c.requires e (t.ended e)

pub returns-in-Done-clause-goes : goal.returns-in-Done-clause-goes
returns-in-Done-clause-goes g c =
    let t = c.turn_at-turn.ensures in
    goes_keeps g.S.Read.remaining g.S.Write.contents g.M.Service.serving g.F.Faults.tells c.args.self.now c.turn_at-turn.new.self c.args.faults.now
    (turned_at g.S.Read.remaining g.S.Write.contents g.M.Service.serving c.args.place c.args.self.now c.turn_at-turn.new.self c.turn_at-turn.result t.turns t.none c.requires
    (λ fault e. done_sound fault c.turn_at-turn.result c.in-Done.is e))

pub returns-in-Done-clause-serves : goal.returns-in-Done-clause-serves
returns-in-Done-clause-serves g c =
    let t = c.turn_at-turn.ensures in
    serving_at g.S.Read.remaining g.S.Write.contents g.M.Service.serving c.args.place c.args.self.now c.turn_at-turn.new.self c.turn_at-turn.result t.turns t.none c.requires

pub returns-in-Done-clause-ended : goal.returns-in-Done-clause-ended
returns-in-Done-clause-ended g c e =
    let t = c.turn_at-turn.ensures in
    ended_at g.S.Read.remaining g.S.Write.contents g.M.Service.serving c.args.place c.args.self.now c.turn_at-turn.new.self c.turn_at-turn.result t.turns t.none c.requires e (t.ended e)

pub returns-in-Ended-clause-goes : goal.returns-in-Ended-clause-goes
returns-in-Ended-clause-goes g c =
    let t = c.turn_at-turn.ensures in
    goes_keeps g.S.Read.remaining g.S.Write.contents g.M.Service.serving g.F.Faults.tells c.args.self.now c.turn_at-turn.new.self c.args.faults.now
    (turned_at g.S.Read.remaining g.S.Write.contents g.M.Service.serving c.args.place c.args.self.now c.turn_at-turn.new.self c.turn_at-turn.result t.turns t.none c.requires
    (λ fault e. ended_sound fault c.turn_at-turn.result c.in-Ended.is e))

pub returns-in-Ended-clause-serves : goal.returns-in-Ended-clause-serves
returns-in-Ended-clause-serves g c =
    let t = c.turn_at-turn.ensures in
    serving_at g.S.Read.remaining g.S.Write.contents g.M.Service.serving c.args.place c.args.self.now c.turn_at-turn.new.self c.turn_at-turn.result t.turns t.none c.requires

pub returns-in-Ended-clause-ended : goal.returns-in-Ended-clause-ended
returns-in-Ended-clause-ended g c e =
    let t = c.turn_at-turn.ensures in
    ended_at g.S.Read.remaining g.S.Write.contents g.M.Service.serving c.args.place c.args.self.now c.turn_at-turn.new.self c.turn_at-turn.result t.turns t.none c.requires e (t.ended e)
