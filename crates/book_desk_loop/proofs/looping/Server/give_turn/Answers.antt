use Rattle.std.proofs.Common.{refl, sym, ◌∙◌}
use Rattle.std.proofs.lemmas.Bool.{false≢true}
use Rattle.book_desk_loop.proofs.Serving.{goes_keeps, goes_none}
use Rattle.book_desk_loop.proofs.looping.Server.give_turn.Goals as goal

pub give_lingering-requires : goal.give_lingering-requires
give_lingering-requires g c line e = c.is_lingering.ensures line e ∙ c.if-is_lingering.true

pub read_and_go_on-requires : goal.read_and_go_on-requires
read_and_go_on-requires g c line e = c.is_lingering.ensures line e ∙ c.if-is_lingering.false

pub returns-then-has_failed_log : goal.returns-then-has_failed_log
returns-then-has_failed_log g c =
    record { goes = goes_none g.S.Read.remaining g.S.Write.contents g.M.Service.serving g.F.Faults.tells c.args.self.now c.args.faults.now; none = λ failed. (refl, refl) }

pub returns-then-is_lingering-clause-none : goal.returns-then-is_lingering-clause-none
returns-then-is_lingering-clause-none g c failed = absurd (false≢true (sym c.if-has_failed_log.false ∙ c.has_failed_log.ensures ∙ failed))

pub returns-clause-none : goal.returns-clause-none
returns-clause-none g c failed = absurd (false≢true (sym c.if-has_failed_log.false ∙ c.has_failed_log.ensures ∙ failed))

pub returns-then-is_lingering-clause-goes : goal.returns-then-is_lingering-clause-goes
returns-then-is_lingering-clause-goes g c = goes_keeps g.S.Read.remaining g.S.Write.contents g.M.Service.serving g.F.Faults.tells c.args.self.now c.give_lingering.new.self c.args.faults.now c.give_lingering.ensures
