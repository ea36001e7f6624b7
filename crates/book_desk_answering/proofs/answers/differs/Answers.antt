use Rattle.std.proofs.Common.{ℕ, Bool, List, Some}
use Rattle.std.specs.Io.KnownBytes.{Keeps}
use Rattle.book_desk_app.specs.Telling.{TellsLine}
use Rattle.book_desk_questions.specs.Differing.{DiffersBy}
use Rattle.book_desk_answering.specs.Answering.{DiffersIn}
use Rattle.book_office.specs.Keeping.{Standing}
use Rattle.book_wire_steps.proofs.Takes.{only_read}
use Rattle.book_desk_answering.proofs.Replied.{replies}
use Rattle.book_desk_answering.proofs.answers.differs.Goals as goal

pub returns-clause-answers : goal.returns-clause-answers
returns-clause-answers g c =
    let S0 : Standing = (g.M.Service.serving c.args.service.now).standing in
    let S1 : Standing = (g.M.Service.serving c.differs-status.new.self).standing in
    let told : List ℕ = c.new-texts.result.errors.text.items in
    let tells : List ℕ = c.differs-status.new.errors.text.items in
    let held : List ℕ = c.new-texts.result.writer.items in
    let holds : List ℕ = c.differs-status.new.writer.items in
    let status : ℕ = c.differs-status.result in
    let Q : Bool → List ℕ → List ℕ → Type 0 = λ whole t h. DiffersBy (TellsLine whole (Some t) (Some tells)) (Keeps (Some t) (Some tells)) c.args.policy.items c.args.strict S0 (Some h) (Some holds) status S1 in
    replies c.into_reply.result _ (DiffersIn S0 S1 c.args.policy.items c.args.strict) status c.differs-status.new.errors.is_whole told tells held holds Q (λ x. x) c.new-texts.ensures.errors c.new-texts.ensures.writer
    c.differs-status.ensures.differs c.into_reply.ensures

pub returns-clause-only : goal.returns-clause-only
returns-clause-only g c = only_read g.M.Service.serving c.args.service.now c.differs-status.new.self c.differs-status.ensures.reads
