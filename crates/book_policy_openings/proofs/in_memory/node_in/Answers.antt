use Rattle.book_policy_openings.proofs.InMemory.{kept, told}
use Rattle.book_policy_openings.proofs.in_memory.node_in.Goals as goal

pub returns-clause-node : goal.returns-clause-node
returns-clause-node c = told c.args.keeper.now c.find.new.self c.find.result _ c.find.ensures

pub returns-clause-kept : goal.returns-clause-kept
returns-clause-kept c = kept c.args.keeper.now c.find.new.self c.find.result _ c.find.ensures
