use Rattle.book_policy_openings.proofs.InMemory.{made, made_sound}
use Rattle.book_policy_openings.proofs.in_memory.act_in.Goals as goal

pub returns-clause-office : goal.returns-clause-office
returns-clause-office c = made c.args.keeper.now c.act.new.self c.act.result c.args.edit.now c.act.ensures

pub returns-clause-sound : goal.returns-clause-sound
returns-clause-sound c = made_sound c.args.keeper.now c.act.new.self c.act.result c.args.edit.now c.act.ensures
