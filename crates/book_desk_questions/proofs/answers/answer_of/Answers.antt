use Rattle.book_desk_questions.proofs.Always.{asked_always}
use Rattle.book_desk_questions.proofs.answers.answer_of.Goals as goal

pub returns-in-Why : goal.returns-in-Why
returns-in-Why g c =
    asked_always _ _ _ c.why_told.result c.always.result _ c.always.ensures c.why_told.ensures
    (rw c.in-Why.is (λ o text t. rw (c.caller_in.ensures, c.as_str.ensures) at t))
    (rw c.in-Why.is (λ o refusal t. rw (c.caller_in.ensures, c.as_str.ensures) at t))

pub returns-in-Who : goal.returns-in-Who
returns-in-Who g c =
    asked_always _ _ _ c.who_told.result c.always-in-Who.result _ c.always-in-Who.ensures c.who_told.ensures
    (rw c.in-Who.is (λ o text t. t)) (rw c.in-Who.is (λ o refusal t. t))

pub returns-in-Rights : goal.returns-in-Rights
returns-in-Rights g c =
    asked_always _ _ _ c.rights_told.result c.always-in-Rights.result _ c.always-in-Rights.ensures c.rights_told.ensures
    (rw c.in-Rights.is (λ o text t. t)) (rw c.in-Rights.is (λ o refusal t. t))

pub returns-in-Part : goal.returns-in-Part
returns-in-Part g c =
    asked_always _ _ _ c.audit_part.result c.always-in-Part.result _ c.always-in-Part.ensures c.audit_part.ensures
    (rw c.in-Part.is (λ o text t. t)) (rw c.in-Part.is (λ o refusal t. t))

pub returns-in-Show : goal.returns-in-Show
returns-in-Show g c =
    asked_always _ _ _ c.shown.result c.always-in-Show.result _ c.always-in-Show.ensures c.shown.ensures
    (rw c.in-Show.is (λ o text t. t)) (rw c.in-Show.is (λ o refusal t. t))
