use Rattle.book_wire_json.proofs.Common.{◌≡◌, subst, rules, string, view}
use Rattle.std.proofs.Common.{string_bytes}
use Rattle.serde_json.specs.declared.value.Value.{the_lemmas}
use Rattle.book_wire_json.specs.Reports.{IsCallerIn}
use Rattle.book_wire_json.proofs.Naming.{no_caller}
use Rattle.book_wire_json.proofs.reports.caller_in.Goals as goal

pub returns-in-None : goal.returns-in-None
returns-in-None c =
    let who : view c.args.who.now ≡ string (string_bytes c.in-String.text) = rw c.in-String.is (search (rules, the_lemmas)) in
    let none = rw (c.in-None.is, c.as_str.ensures.value) at c.in_ok-person-in-String.ensures.none in
    λ caller is. no_caller (string_bytes c.in-String.text) none caller (subst (λ d. IsCallerIn d caller) who is)
