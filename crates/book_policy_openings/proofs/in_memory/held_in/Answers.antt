use Rattle.book_policy_openings.proofs.InMemory.{kept, told}
use Rattle.book_policy_openings.proofs.in_memory.held_in.Goals as goal

pub returns-clause-held : goal.returns-clause-held
returns-clause-held c = told c.args.keeper.now c.held_at.new.keeper c.held_at.result _ c.held_at.ensures

pub returns-clause-kept : goal.returns-clause-kept
returns-clause-kept c = kept c.args.keeper.now c.held_at.new.keeper c.held_at.result _ c.held_at.ensures
