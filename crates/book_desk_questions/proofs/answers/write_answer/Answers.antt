use Rattle.std.proofs.Common.{rules}
use Rattle.book_desk_questions.proofs.answers.write_answer.Goals as goal

pub returns-then-is_err-clause-failed : goal.returns-then-is_err-clause-failed
returns-then-is_err-clause-failed g c = (c.in-Ok-Some.text, rw c.in-Ok-Some.field-0-is at c.in-Ok-Some.ensures)

pub returns-clause-told : goal.returns-clause-told
returns-clause-told g c = (c.in-Ok-Some.text, rw c.in-Ok-Some.field-0-is at c.in-Ok-Some.ensures, search rules)
