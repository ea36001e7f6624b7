use Rattle.std.proofs.Common.{ℕ, Bool, List, Some}
use Rattle.book_desk_administering.specs.Putting.{PutsPolicy}
use Rattle.book_desk_answering.specs.Answering.{PutsIn}
use Rattle.book_desk_answering.proofs.Replied.{replies}
use Rattle.book_desk_answering.proofs.answers.put_policy.Goals as goal

pub returns-clause-answers : goal.returns-clause-answers
returns-clause-answers g c =
    let told : List ℕ = c.new-texts.result.errors.text.items in
    let tells : List ℕ = c.put_policy-status.new.errors.text.items in
    let held : List ℕ = c.new-texts.result.writer.items in
    let holds : List ℕ = c.put_policy-status.new.writer.items in
    let status : ℕ = c.put_policy-status.result in
    let Q : Bool → List ℕ → List ℕ → Type 0 = λ whole t h. PutsPolicy g.M.Service.serving c.args.policy.items whole (Some t) (Some tells) c.args.service.now (Some h) (Some holds) status c.put_policy-status.new.self in
    replies c.into_reply.result _ (PutsIn g.M.Service.serving c.args.service.now c.put_policy-status.new.self c.args.policy.items) status c.put_policy-status.new.errors.is_whole told tells held holds Q (λ x. x) c.new-texts.ensures.errors c.new-texts.ensures.writer
    c.put_policy-status.ensures.puts c.into_reply.ensures

pub returns-clause-only : goal.returns-clause-only
returns-clause-only g c = c.put_policy-status.ensures.only
