use Rattle.book_dumps.proofs.Common.{ap, ◌∙◌, map}
use Rattle.std.proofs.lemmas.Result.{IfOk-weaker}
use Rattle.book_dumps.proofs.GroupMembers.{listed_members, member_of}
use Rattle.book_dumps.proofs.reading.members_of.Goals as goal

pub returns : goal.returns
returns c =
    IfOk-weaker c.members_among.result _ _ (λ members is all group of_group. is ∙ ap (map member_of) c.as_slice.ensures.value
    ∙ listed_members all c.args.pairs.now group c.in_ok-list.list.items of_group c.in_ok-list.ensures.pairs c.in_ok-list.ensures.in_order) c.members_among.ensures
