use Rattle.book_office_values.proofs.Spelling.{member_found, member_bad, no_member_there}
use Rattle.book_office_values.proofs.paths.member.Goals as goal

pub returns-in_default-clause-bad : goal.returns-in_default-clause-bad
returns-in_default-clause-bad c = λ e name is spells. no_member_there c.args.text.now c.in_default.ensures.none name spells

pub returns-clause-found : goal.returns-clause-found
returns-clause-found c =
    member_found c.args.text.now c.in-Some.rest.now c.without_slash.result.now c.name.result c.in-Some.ensures.some c.without_slash.ensures.spelled c.name.ensures.found

pub returns-clause-bad : goal.returns-clause-bad
returns-clause-bad c =
    member_bad c.args.text.now c.in-Some.rest.now c.without_slash.result.now c.name.result c.in-Some.ensures.some c.without_slash.ensures.only c.name.ensures.bad
