use Rattle.book_policy_openings.proofs.InMemory.{adopted, adopted_sound, not_adopted}
use Rattle.book_policy_openings.proofs.in_memory.adopt_in.Goals as goal

pub returns-clause-office : goal.returns-clause-office
returns-clause-office c = adopted c.args.machine.now.keeper c.adopt.new.self.keeper c.args.policy.now c.adopt.result c.adopt.ensures

pub returns-clause-sound : goal.returns-clause-sound
returns-clause-sound c = adopted_sound c.args.machine.now.keeper c.adopt.new.self.keeper c.args.policy.now c.adopt.result c.adopt.ensures

pub returns-clause-refused : goal.returns-clause-refused
returns-clause-refused c = not_adopted c.args.machine.now.keeper c.adopt.new.self.keeper c.args.policy.now c.adopt.result c.adopt.ensures
