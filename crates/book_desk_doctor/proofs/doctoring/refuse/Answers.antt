use Rattle.book_desk_doctor.proofs.Common.{inl}
use Rattle.book_desk_doctor.proofs.doctoring.refuse.Goals as goal

pub returns-in-NoStore-Connection-clause-ends : goal.returns-in-NoStore-Connection-clause-ends
returns-in-NoStore-Connection-clause-ends g c =
    let it = c.in-NoStore-Connection in
    inl (it.connection, it.is-0, it.is-1, c.tell_fault.ensures.ends)
