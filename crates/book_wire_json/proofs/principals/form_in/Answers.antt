use Rattle.book_lists_explain.proofs.LineFaults.{no_who}
use Rattle.book_wire_json.proofs.principals.form_in.Goals as goal

pub returns-in-None : goal.returns-in-None
returns-in-None c =
    let d = c.in_default in
    let none = rw c.in-None.is at c.in_ok-principal-in_default.ensures.none in
    no_who c.args.text.now d.not-all d.not-authenticated d.not-unauthenticated d.not-owner d.not-self (λ path names. none path names.0 names.1)
