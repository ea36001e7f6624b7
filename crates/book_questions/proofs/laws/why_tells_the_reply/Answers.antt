use Rattle.book_questions.proofs.WhyTold.{why_verdict, why_reply}
use Rattle.book_questions.proofs.laws.why_tells_the_reply.Goals as goal

pub returns : goal.returns
returns c = record { verdict = why_verdict; reply = why_reply }
