use Rattle.book_desk_serving.proofs.Common.{◌∙◌}
use Rattle.book_desk_serving.proofs.preparing.prepare_in_memory.Goals as goal

pub returns-in-Err-clause-refused : goal.returns-in-Err-clause-refused
returns-in-Err-clause-refused c = (_, rw (c.new-machine.ensures ∙ c.new.ensures.value) at c.in-Err.ensures.refused)
