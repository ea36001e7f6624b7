use Rattle.book_lists_explain.proofs.Common.{◌≡◌, List, ℕ, Who, ExplainFaultKind, BadName, OrMemory, IsWho, Names}
use Rattle.book_lists_explain.proofs.LineFaults.{passed_on, or_memory, no_who}
use Rattle.book_lists_explain.proofs.lines.who.Goals as goal

pub returns-in_err-principal-in_default-clause-bad : goal.returns-in_err-principal-in_default-clause-bad
returns-in_err-principal-in_default-clause-bad c =
    let word = c.args.word.now in
    let d = c.in_default in
    let P : ExplainFaultKind → Type 0 = λ kind. (kind ≡ BadName) × ((path : List ℕ) → Names word path → ⊥) in
    let Q : ExplainFaultKind → Type 0 = λ kind. (kind ≡ BadName) × ((who : Who) → IsWho word who → ⊥) in
    passed_on c.from_residual.result (OrMemory Q) c.in_err-principal-in_default.field-0.0 c.from_residual.ensures.1
    (or_memory P Q c.in_err-principal-in_default.field-0.0
    (λ b. (b.0, no_who word d.not-all d.not-authenticated d.not-unauthenticated d.not-owner d.not-self b.1)) c.in_err-principal-in_default.ensures.bad)
