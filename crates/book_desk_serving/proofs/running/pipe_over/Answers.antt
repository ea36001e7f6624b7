use Rattle.sqlite.specs.Held.{state}
use Rattle.book_desk_app.specs.Stores.{standing_in}
use Rattle.book_desk_app.specs.Telling.{TellsFailure}
use Rattle.book_desk_serving.proofs.Behind.{piped_behind}
use Rattle.book_desk_serving.proofs.running.pipe_over.Goals as goal

pub returns-clause-ends : goal.returns-clause-ends
returns-clause-ends g c =
    let held = g.E.Write.contents c.args.errors.now in
    let holds = g.E.Write.contents c.pipe-status.new.errors in
    piped_behind (TellsFailure (g.E.Lines.is_whole c.pipe-status.new.errors) held holds)
    (standing_in (state g.S.Store) (λ t. t.connection) (λ t. t.failures)) _ _ _ _ c.pipe-status.result
    c.args.tables c.into_inner.result c.new.result c.new-machine.result.keeper c.pipe-status.new.service.keeper c.release.result
    c.new.ensures.keeper c.new.ensures.nothing c.new-machine.ensures c.release.ensures c.into_inner.ensures
    (λ other. (c.pipe-status.ensures.ended other, c.pipe-status.ensures.sound other), c.pipe-status.ensures.stopped)
