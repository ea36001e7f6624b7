use Rattle.book_desk_loop.proofs.Serving.{keeps_then}
use Rattle.book_desk_loop.proofs.looping.Server.after_turn.Goals as goal

pub begin_to_close-requires : goal.begin_to_close-requires
begin_to_close-requires g c = (let r = c.requires.done c.in-Done.is in record { done = r.0; serves = r.1 })

pub release-requires : goal.release-requires
release-requires g c = c.requires.ended c.in-Ended.is

pub returns-in-Done : goal.returns-in-Done
returns-in-Done g c = keeps_then g.S.Read.remaining g.S.Write.contents g.M.Service.serving c.args.self.now c.begin_to_close.new.self c.queue-in-Done.new.self c.begin_to_close.ensures c.queue-in-Done.ensures
