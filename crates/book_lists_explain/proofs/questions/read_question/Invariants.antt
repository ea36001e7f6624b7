use Rattle.book_lists_explain.proofs.Common.{List, take, [], Line, LinesSay, IsQuestion}
use Rattle.book_lists_explain.proofs.LineFaults.{texts}
use Rattle.book_lists_explain.proofs.questions.read_question.Given as goal

-- the lines so far have no fault, and the question is what they ask
abbrev pub invariant-loop-index : goal.invariant-loop-index
invariant-loop-index l = (said : List Line) × LinesSay [] (texts (take l.index l.line-items)) said × IsQuestion said l.question
