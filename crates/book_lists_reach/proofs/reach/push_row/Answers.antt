use Rattle.std.proofs.Common.{◌≡◌, ◌++◌, ◌∷◌, ◌∙◌, List, ℕ, [], cond, get_or, sym}
use Rattle.book_lists.specs.declared.memberships.Membership.{Membership}
use Rattle.book_lists_reach.specs.Pairs.{bit_alone}
use Rattle.book_lists_reach.proofs.RowPairs.{any_default}
use Rattle.book_lists_reach.proofs.Listing.{row_bare, row_begins, row_ends, row_more}
use Rattle.book_lists_reach.proofs.reach.push_row.Goals as goal

pub returns-then-is_bare : goal.returns-then-is_bare
returns-then-is_bare c =
    let ps = c.args.principals.now in
    let rows = c.args.rows.now in
    let i = c.args.i in
    let bare : get_or rows i [] ≡ [] = sym (any_default rows i c.index-rows-i.result [] c.requires.row) ∙ sym c.index-rows-i.is ∙ c.is_bare.ensures c.if-is_bare.true in
    row_bare ps (get_or ps i []) rows c.args.others.now c.args.places.now i c.args.list.now.items bare

pub loop-j-init : goal.loop-j-init
loop-j-init c =
    let ps = c.args.principals.now in
    row_begins ps (get_or ps c.args.i []) (bit_alone c.args.rows.now c.args.others.now c.args.places.now c.args.i) c.args.list.now.items

pub loop-j-preserved : goal.loop-j-preserved
loop-j-preserved c =
    let ps = c.args.principals.now in
    let i = c.args.i in
    let j = c.loop-j.j in
    let list : List Membership = c.loop-j.list.items in
    let g : c.index-principals-i.result ≡ get_or ps i [] = c.index-principals-i.is ∙ any_default ps i c.index-principals-i.result [] c.requires.group in
    let p : c.index-principals-j.result ≡ get_or ps j [] = c.index-principals-j.is ∙ any_default ps j c.index-principals-j.result [] c.loop-j-test.true in
    let one : List ℕ → List ℕ → List Membership = λ x y. record { group = x; member = y } ∷ [] in
    row_more ps (get_or ps i []) (bit_alone c.args.rows.now c.args.others.now c.args.places.now i) j c.args.list.now.items list c.push_where.new.list.items c.loop-j-test.true
    (c.in_ok-push_where.ensures ∙ (λ k. list ++ cond (c.is_alone-alone.ensures k) (one (g k) (p k)) [])) c.loop-j.invariant

pub returns : goal.returns
returns c =
    let ps = c.args.principals.now in
    row_ends ps (get_or ps c.args.i []) (bit_alone c.args.rows.now c.args.others.now c.args.places.now c.args.i) c.loop-j.j c.args.list.now.items c.loop-j.list.items c.loop-j-test.false c.loop-j.invariant
