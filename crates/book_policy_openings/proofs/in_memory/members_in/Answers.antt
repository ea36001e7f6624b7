use Rattle.book_policy_openings.proofs.InMemory.{kept, told}
use Rattle.book_policy_openings.proofs.in_memory.members_in.Goals as goal

pub returns-clause-pairs : goal.returns-clause-pairs
returns-clause-pairs c = told c.args.keeper.now c.members.new.self c.members.result _ c.members.ensures

pub returns-clause-kept : goal.returns-clause-kept
returns-clause-kept c = kept c.args.keeper.now c.members.new.self c.members.result _ c.members.ensures
