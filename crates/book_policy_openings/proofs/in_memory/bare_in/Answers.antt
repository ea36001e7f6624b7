use Rattle.book_policy_openings.proofs.InMemory.{kept, told}
use Rattle.book_policy_openings.proofs.in_memory.bare_in.Goals as goal

pub returns-clause-bare : goal.returns-clause-bare
returns-clause-bare c = told c.args.keeper.now c.copy_without_cards.new.keeper c.copy_without_cards.result _ c.copy_without_cards.ensures

pub returns-clause-kept : goal.returns-clause-kept
returns-clause-kept c = kept c.args.keeper.now c.copy_without_cards.new.keeper c.copy_without_cards.result _ c.copy_without_cards.ensures
