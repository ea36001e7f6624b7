use Rattle.book_log_service.proofs.logged.LoggedService.serve.Goals as goal

pub returns-clause-owes : goal.returns-clause-owes
returns-clause-owes g c = c.serve.ensures.owes (g.W.Write.contents c.args.self.now.writer)
