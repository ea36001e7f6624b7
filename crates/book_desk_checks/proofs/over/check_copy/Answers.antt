use Rattle.book_desk_app.specs.Telling.{TellsFailure}
use Rattle.book_desk_app.specs.declared.failures.Failure.TheVariants.{Store}
use Rattle.book_desk_app.specs.declared.failures.StoreFailure.{StoreFailure}
use Rattle.book_desk_checks.proofs.Common.{inl, inr, subst, Keeps-refl}
use Rattle.book_desk_checks.proofs.over.check_copy.Goals as goal

pub returns-in-Err : goal.returns-in-Err
returns-in-Err g c =
    let told = subst (λ (failure : StoreFailure). TellsFailure (g.E.Lines.is_whole c.tell_line.new.errors) (g.E.Write.contents c.args.errors.now) (g.E.Write.contents c.tell_line.new.errors) (Store failure))
    c.from.ensures c.tell_line.ensures.told in
    inl (c.in-Err.fault, c.in-Err.ensures, c.tell_line.ensures.status, Keeps-refl _, told)

pub returns : goal.returns
returns g c = inr (c.in-Ok.start, c.in-Ok.ensures, (c.tell_policy_over-told.result, _, c.tell_policy_over-told.ensures, c.end_over.ensures.status, c.end_over.ensures.told))
