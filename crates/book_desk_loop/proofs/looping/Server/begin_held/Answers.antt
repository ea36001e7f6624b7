use Rattle.std.proofs.Common.{Option, sym, ◌∙◌, subst}
use Rattle.book_desk_loop.specs.Serving.{AreKept}
use Rattle.book_desk_loop.proofs.Serving.{goes_begun, goes_unbegun, goes_keeps, goes_none}
use Rattle.book_desk_loop.proofs.looping.Server.begin_held.Goals as goal

pub returns-then-self : goal.returns-then-self
returns-then-self g c = goes_none g.S.Read.remaining g.S.Write.contents g.M.Service.serving g.F.Faults.tells c.args.self.now c.args.faults.now

pub returns-in-Ok : goal.returns-in-Ok
returns-in-Ok g c =
    let old = c.args.self.now in
    let mid = record old { held = c.replace.new.dest } in
    let x = c.in-Ok.ensures.ok in
    goes_begun g.S.Read.remaining g.S.Write.contents g.M.Service.serving g.F.Faults.tells x.0 c.in-Some.stream old mid c.begin.new.self c.args.faults.now
    (λ limits first faults y.
    let P : Option g.row.S.Denot → Type 0 = λ t. AreKept g.S.Read.remaining g.S.Write.contents g.M.Service.serving limits first faults old.connections old.sockets.items old.left t in
    (y.0, subst P (sym c.replace.ensures.value ∙ c.in-Some.is) y.1))
    c.replace.ensures.after c.begin.ensures.begins.rest c.begin.ensures.begins x.1

pub returns-in-Err : goal.returns-in-Err
returns-in-Err g c =
    let old = c.args.self.now in
    let mid = record old { held = c.replace.new.dest } in
    goes_unbegun g.S.Read.remaining g.S.Write.contents g.M.Service.serving g.F.Faults.tells c.fault_of.result c.in-Some.stream old mid c.begin.new.self c.args.faults.now c.tell.new.faults
    (λ limits first faults y.
    let P : Option g.row.S.Denot → Type 0 = λ t. AreKept g.S.Read.remaining g.S.Write.contents g.M.Service.serving limits first faults old.connections old.sockets.items old.left t in
    (y.0, subst P (sym c.replace.ensures.value ∙ c.in-Some.is) y.1))
    c.replace.ensures.after c.begin.ensures.begins.rest c.begin.ensures.begins c.in-Err.ensures.err c.tell.ensures

pub returns-in-None : goal.returns-in-None
returns-in-None g c =
    let old = c.args.self.now in
    goes_keeps g.S.Read.remaining g.S.Write.contents g.M.Service.serving g.F.Faults.tells old (record old { held = c.replace.new.dest }) c.args.faults.now
    (λ limits first faults y.
    let P : Option g.row.S.Denot → Type 0 = λ t. AreKept g.S.Read.remaining g.S.Write.contents g.M.Service.serving limits first faults old.connections old.sockets.items old.left t in
    (y.0, subst P (sym c.replace.ensures.after) (subst P (sym c.replace.ensures.value ∙ c.in-None.is) y.1)))
