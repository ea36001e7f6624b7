use Rattle.std.proofs.Common.{ℕ, List, IfOk, subst, sym}
use Rattle.book_desk_control.specs.declared.demands.Demand.{Demand}
use Rattle.book_desk_control.specs.declared.replies.Kind.TheVariants as kind
use Rattle.book_office.specs.Keeping.{Standing}
use Rattle.book_desk_answering.specs.Answering.{AnswersDemand, ChecksIn, DiffersIn, PutsIn, RepliesBy}
use Rattle.book_desk_answering.proofs.answers.answer.Goals as goal

pub returns-in-Check-clause-answers : goal.returns-in-Check-clause-answers
returns-in-Check-clause-answers g c =
    let S0 : Standing = (g.M.Service.serving c.args.service.now).standing in
    let S1 : Standing = (g.M.Service.serving c.check.new.service).standing in
    let P : List ℕ → Type 0 = λ bytes. IfOk c.check.result (RepliesBy kind.Text (ChecksIn S0 S1 bytes c.in-Check.strict)) in
    let R : Demand → Type 0 = λ d. IfOk c.check.result (AnswersDemand g.M.Service.serving c.args.service.now c.check.new.service (g.C.Copying.copies c.args.copier.now c.args.service.now c.check.new.service c.args.copier.now) d) in
    subst R (sym c.in-Check.is) (subst P c.into_vec.ensures c.check.ensures.answers)

pub returns-in-Differs-clause-answers : goal.returns-in-Differs-clause-answers
returns-in-Differs-clause-answers g c =
    let S0 : Standing = (g.M.Service.serving c.args.service.now).standing in
    let S1 : Standing = (g.M.Service.serving c.differs.new.service).standing in
    let P : List ℕ → Type 0 = λ bytes. IfOk c.differs.result (RepliesBy kind.Text (DiffersIn S0 S1 bytes c.in-Differs.strict)) in
    let R : Demand → Type 0 = λ d. IfOk c.differs.result (AnswersDemand g.M.Service.serving c.args.service.now c.differs.new.service (g.C.Copying.copies c.args.copier.now c.args.service.now c.differs.new.service c.args.copier.now) d) in
    subst R (sym c.in-Differs.is) (subst P c.into_vec-in-Differs.ensures c.differs.ensures.answers)

pub returns-in-Policy-clause-answers : goal.returns-in-Policy-clause-answers
returns-in-Policy-clause-answers g c =
    let P : List ℕ → Type 0 = λ bytes. IfOk c.put_policy.result (RepliesBy kind.Text (PutsIn g.M.Service.serving c.args.service.now c.put_policy.new.service bytes)) in
    let R : Demand → Type 0 = λ d. IfOk c.put_policy.result (AnswersDemand g.M.Service.serving c.args.service.now c.put_policy.new.service (g.C.Copying.copies c.args.copier.now c.args.service.now c.put_policy.new.service c.args.copier.now) d) in
    subst R (sym c.in-Policy.is) (subst P c.into_vec-in-Policy.ensures c.put_policy.ensures.answers)
