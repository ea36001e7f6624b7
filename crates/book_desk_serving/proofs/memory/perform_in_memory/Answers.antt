use Rattle.book_desk_serving.proofs.Common.{◌∙◌}
use Rattle.book_desk_serving.proofs.memory.perform_in_memory.Goals as goal

pub returns-clause-ends : goal.returns-clause-ends
returns-clause-ends g c = (_, rw (c.new-machine.ensures ∙ c.new.ensures.value) at c.perform.ensures.ends)
