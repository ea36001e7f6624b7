use Rattle.book_wire_json.proofs.Common.{sym, ◌∙◌, false≢true}
use Rattle.book_wire_json.proofs.Naming.{no_person}
use Rattle.book_lists_explain.proofs.LineFaults.{person_or_group}
use Rattle.book_wire_json.proofs.principals.person_in.Goals as goal

pub returns-else-is_group-clause-named : goal.returns-else-is_group-clause-named
returns-else-is_group-clause-named c =
    let named = rw c.in-Some.is at c.in_ok-principal.ensures.found in
    (person_or_group _ named.0 (λ group. false≢true (sym c.if-is_group.false ∙ c.is_group.ensures.1 group)), named)

pub returns-then-is_group-clause-none : goal.returns-then-is_group-clause-none
returns-then-is_group-clause-none c =
    let named = rw c.in-Some.is at c.in_ok-principal.ensures.found in
    no_person _ _ named (c.is_group.ensures.0 c.if-is_group.true)

pub returns-in-None-clause-none : goal.returns-in-None-clause-none
returns-in-None-clause-none c =
    let none = rw c.in-None.is at c.in_ok-principal.ensures.none in
    λ path person names. none path names.0 names.1
