use Rattle.std.specs.Option.{option_copied}
use Rattle.book_policy_openings.proofs.InMemory.{served, served_sound}
use Rattle.book_policy_openings.proofs.in_memory.serve_in.Goals as goal

pub returns-clause-served : goal.returns-clause-served
returns-clause-served c =
    rw c.name_text.ensures at (served c.args.machine.now.keeper c.serve.new.self.keeper (option_copied c.name_text.result) c.args.request.now c.serve.result c.serve.ensures.served)

pub returns-clause-sound : goal.returns-clause-sound
returns-clause-sound c = served_sound c.args.machine.now.keeper c.serve.new.self.keeper (option_copied c.name_text.result) c.args.request.now c.serve.result c.serve.ensures.served
