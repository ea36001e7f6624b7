use Rattle.book_lists.proofs.Common.{arith}
use Rattle.book_lists.proofs.KeptDeciders.{counted}
use Rattle.book_lists.proofs.deciders.Deciders.are_counted.Goals as goal

pub returns : goal.returns
returns c need readings s holds = counted need readings c.args.self.now s (omega (arith, c.if-self.false))
