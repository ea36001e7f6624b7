use Rattle.std.proofs.Common.{ℕ, Bool, List, Some}
use Rattle.book_desk_checks.specs.Checking.{ChecksCopy}
use Rattle.book_desk_answering.specs.Answering.{ChecksIn}
use Rattle.book_office.specs.Keeping.{Standing}
use Rattle.book_wire_steps.proofs.Takes.{only_read}
use Rattle.book_desk_answering.proofs.Replied.{replies}
use Rattle.book_desk_answering.proofs.answers.check.Goals as goal

pub returns-clause-answers : goal.returns-clause-answers
returns-clause-answers g c =
    let S0 : Standing = (g.M.Service.serving c.args.service.now).standing in
    let S1 : Standing = (g.M.Service.serving c.check-status.new.self).standing in
    let told : List ℕ = c.new-texts.result.errors.text.items in
    let tells : List ℕ = c.check-status.new.errors.text.items in
    let held : List ℕ = c.new-texts.result.writer.items in
    let holds : List ℕ = c.check-status.new.writer.items in
    let status : ℕ = c.check-status.result in
    let Q : Bool → List ℕ → List ℕ → Type 0 = λ whole t h. ChecksCopy c.args.policy.items c.args.strict whole S0 (Some h) (Some holds) (Some t) (Some tells) status S1 in
    replies c.into_reply.result _ (ChecksIn S0 S1 c.args.policy.items c.args.strict) status c.check-status.new.errors.is_whole told tells held holds Q (λ x. x) c.new-texts.ensures.errors c.new-texts.ensures.writer
    c.check-status.ensures.checks c.into_reply.ensures

pub returns-clause-only : goal.returns-clause-only
returns-clause-only g c = only_read g.M.Service.serving c.args.service.now c.check-status.new.self c.check-status.ensures.reads
