use Rattle.book_policy_openings.proofs.InMemory.{kept, told}
use Rattle.book_policy_warnings.proofs.warnings.gaps_in.Goals as goal

pub returns-clause-gaps : goal.returns-clause-gaps
returns-clause-gaps c = told c.args.keeper.now c.gaps_of.new.keeper c.gaps_of.result _ c.gaps_of.ensures

pub returns-clause-kept : goal.returns-clause-kept
returns-clause-kept c = kept c.args.keeper.now c.gaps_of.new.keeper c.gaps_of.result _ c.gaps_of.ensures
