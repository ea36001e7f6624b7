use Rattle.book_policy_openings.proofs.InMemory.{kept, told}
use Rattle.book_policy_openings.proofs.in_memory.count_in.Goals as goal

pub returns-clause-count : goal.returns-clause-count
returns-clause-count c = told c.args.keeper.now c.count.new.self c.count.result _ c.count.ensures

pub returns-clause-kept : goal.returns-clause-kept
returns-clause-kept c = kept c.args.keeper.now c.count.new.self c.count.result _ c.count.ensures
