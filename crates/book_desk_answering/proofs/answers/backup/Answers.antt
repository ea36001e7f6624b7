use Rattle.std.proofs.Common.{◌≡◌, ℕ, Bool, List, Option, Some, refl, subst}
use Rattle.book_desk_answering.specs.Answering.{CopiesIn}
use Rattle.book_desk_answering.specs.Copies.{Copied}
use Rattle.book_wire_steps.proofs.Takes.{only_read}
use Rattle.book_desk_answering.proofs.Replied.{replies}
use Rattle.book_desk_answering.proofs.answers.backup.Goals as goal

pub returns-clause-answers : goal.returns-clause-answers
returns-clause-answers g c =
    let told : List ℕ = c.new-texts.result.errors.text.items in
    let tells : List ℕ = c.copy-status.new.errors.text.items in
    let written : List ℕ = c.new-texts.result.writer.items in
    let status : ℕ = c.copy-status.result in
    let Copies : Copied = g.C.Copying.copies c.args.copier.now c.args.service.now c.copy-status.new.service c.copy-status.new.self in
    let Q : Bool → List ℕ → List ℕ → Type 0 = λ whole t h. Copies c.args.to whole (Some t) (Some tells) status × ((◌≡◌) {A = Option (List ℕ)} (Some written) (Some h)) in
    let P : List ℕ → Type 0 = λ name. Copies name c.copy-status.new.errors.is_whole (Some told) (Some tells) status in
    replies c.into_reply.result _ (CopiesIn Copies c.args.to) status c.copy-status.new.errors.is_whole told tells written written Q (λ x. x) c.new-texts.ensures.errors c.new-texts.ensures.writer
    (subst P c.as_str.ensures c.copy-status.ensures.copies, refl) c.into_reply.ensures

pub returns-clause-only : goal.returns-clause-only
returns-clause-only g c = only_read g.M.Service.serving c.args.service.now c.copy-status.new.service c.copy-status.ensures.reads
