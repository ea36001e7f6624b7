use Rattle.book_policy_values.proofs.Common.{rules, ◌∙◌, IsPlaceOf}
use Rattle.book_policy_values.proofs.Paths.{no_place, place_spelled}
use Rattle.book_policy_values.proofs.reading.place_at.Goals as goal

pub returns-then-not-is_place-clause-none : goal.returns-then-not-is_place-clause-none
returns-then-not-is_place-clause-none c =
    let h = rw c.in-Some.is at c.in_ok-path.ensures.some in
    let no : IsPlaceOf c.args.persons.now c.args.groups.now c.args.books.now c.in-Some.path → ⊥ = search rules in
    no_place c.args.persons.now c.args.groups.now c.args.text.now c.in-Some.path h.0 h.1 c.args.books.now no

pub returns-clause-some : goal.returns-clause-some
returns-clause-some c =
    let h = rw c.in-Some.is at c.in_ok-path.ensures.some in
    let place : IsPlaceOf c.args.persons.now c.args.groups.now c.args.books.now c.in-Some.path = search rules in (
      c.from_string.ensures ∙ c.in_ok-text.ensures ∙ place_spelled c.args.persons.now c.args.groups.now c.args.text.now c.in-Some.path h.0 h.1 c.args.books.now place,
      (c.in-Some.path, h.0, h.1, place),
    )
