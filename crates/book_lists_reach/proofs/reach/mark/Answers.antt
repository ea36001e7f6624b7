use Rattle.std.proofs.Common.{◌≡◌, ◌<◌, ◌||◌, ◌∙◌, ℕ, List, [], length, get_or, nat_eq, ap, rules}
use Rattle.std.proofs.lemmas.Option.{slice_get_within}
use Rattle.book_lists_reach.specs.Bits.{bit}
use Rattle.book_lists_reach.proofs.RowPairs.{any_default, bit_is_pair, row_marked}
use Rattle.book_lists_reach.proofs.reach.mark.Goals as goal

pub index_mut-requires : goal.index_mut-requires
index_mut-requires c =
    let within : c.in-Some.i < length c.args.principals.now = slice_get_within c.args.principals.now c.in-Some.i c.args.group.now c.in-Some.ensures in
    search rules

pub returns-clause-marked : goal.returns-clause-marked
returns-clause-marked c = λ yes.
    let ps = c.args.principals.now in
    let rows : List (List ℕ) = c.args.rows.now.items in
    let i = c.in-Some.i in
    let j = c.in-Some-place_of.j in
    let here : i < length ps = slice_get_within ps i c.args.group.now c.in-Some.ensures in
    let within : i < length rows = search rules in
    let row : c.index_mut.result.now ≡ get_or rows i [] = c.index_mut.ensures.value ∙ any_default rows i c.index_mut.result.now [] within in
    bit_is_pair ps c.requires.in_order rows _ i j (record { group = c.args.group.now; member = c.args.member.now }) c.in-Some.ensures c.in-Some-place_of.ensures
    (row_marked rows i j c.insert.new.self within (λ b. c.in_ok-insert.ensures.ok b ∙ ap (λ r. nat_eq b j || bit r b) row))
