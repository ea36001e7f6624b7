use Rattle.std.proofs.Common.{◌≡◌, ℕ, Bool, List, Some}
use Rattle.std.specs.Io.KnownBytes.{Keeps}
use Rattle.book_desk_app.specs.Audits.{Audits, FailsToAudit}
use Rattle.book_desk_app.specs.Endings.{EndsWith}
use Rattle.book_desk_app.specs.Telling.{TellsFailure}
use Rattle.book_desk_answering.specs.Answering.{AuditsIn}
use Rattle.book_office.specs.Keeping.{Standing}
use Rattle.book_wire_steps.proofs.Takes.{only_read}
use Rattle.book_desk_answering.proofs.Replied.{replies}
use Rattle.book_desk_answering.proofs.answers.audit_all.Goals as goal

pub returns-clause-answers : goal.returns-clause-answers
returns-clause-answers g c =
    let S0 : Standing = (g.M.Service.serving c.args.service.now).standing in
    let S1 : Standing = (g.M.Service.serving c.audit-status.new.self).standing in
    let told : List ℕ = c.new-texts.result.errors.text.items in
    let tells : List ℕ = c.audit-status.new.errors.text.items in
    let held : List ℕ = c.new-texts.result.writer.items in
    let holds : List ℕ = c.audit-status.new.writer.items in
    let status : ℕ = c.audit-status.result in
    let Q : Bool → List ℕ → List ℕ → Type 0 = λ whole t h. EndsWith (TellsFailure whole (Some t) (Some tells)) (Audits S0 (Some h) (Some holds) S1) (λ failure. FailsToAudit S0 failure (Some h) (Some holds) S1) status × (status ≡ 0 → Keeps (Some t) (Some tells)) in
    replies c.into_reply.result _ (AuditsIn S0 S1) status c.audit-status.new.errors.is_whole told tells held holds Q (λ x. x) c.new-texts.ensures.errors c.new-texts.ensures.writer
    (c.audit-status.ensures.audits, c.audit-status.ensures.silent) c.into_reply.ensures

pub returns-clause-only : goal.returns-clause-only
returns-clause-only g c = only_read g.M.Service.serving c.args.service.now c.audit-status.new.self c.audit-status.ensures.reads
