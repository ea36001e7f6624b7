use Rattle.std.proofs.lemmas.Result.{on_ok_weaker}
use Rattle.book_lists.proofs.Common.{◌≡◌, ℕ, List, inr, refl, sym, ap, ◌∙◌, unwrap_or, pairs_in}
use Rattle.std.proofs.lemmas.Bool.{not_from_false}
use Rattle.std.specs.FinSet as set
use Rattle.book_lists.specs.Memberships.{Memberships}
use Rattle.book_lists.proofs.GroupLists.{contains-pairs_in}
use Rattle.book_lists.proofs.Reaching.{known_above}
use Rattle.book_lists.proofs.memberships.climb.Goals as goal

pub returns-in-Some : goal.returns-in-Some
returns-in-Some c =
    let pairs = pairs_in c.args.groups.now.entries in
    let member = c.args.member.now in
    let kept : (q : List ℕ) → set.contains c.in-Some.above.now q ≡ set.contains c.args.known.now (record { group = q; member = member }) = λ q.
    ap (λ o. set.contains (unwrap_or o set.empty) q) c.in-Some.ensures.value
    ∙ sym (contains-pairs_in c.known.inside.groups.entries c.known.invariant.0 q member)
    ∙ ap (λ (s : Memberships). set.contains s (record { group = q; member = member })) c.known.view_is in
    let some = c.is_empty.ensures.some (not_from_false c.is_empty.result c.if-not-is_empty.true) in
    on_ok_weaker c.add_all.result (λ more. inr (more.0, known_above pairs c.args.known.now member c.in-Some.above.now more.0 kept some c.requires.known more.1, refl, more.2)) c.add_all.ensures
