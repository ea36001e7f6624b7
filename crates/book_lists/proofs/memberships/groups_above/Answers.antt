use Rattle.std.proofs.lemmas.Result.{IfOk-weaker}
use Rattle.book_lists.proofs.Common.{◌≡◌, ◌↔◌, ◌++◌, ℕ, List, map, true, sym, ap, ◌∙◌, has_path, pairs_in}
use Rattle.book_lists.specs.Memberships.{IsDirect}
use Rattle.book_lists.proofs.GroupLists.{contains-pairs_in}
use Rattle.book_lists.proofs.Reaching.{found_above}
use Rattle.book_lists.proofs.memberships.groups_above.Goals as goal

pub returns : goal.returns
returns c =
    let entries = c.args.groups.now.entries in
    let pairs = pairs_in entries in
    let member = c.args.member.now in
    let pushed = c.in_ok-push_groups.ensures in
    let first : map (λ w. w.now) c.push_groups.new.work.items ≡ pushed.0 = pushed.2 ∙ ap (λ ws. map (λ w. w.now) ws ++ pushed.0) c.new-work.ensures.items in
    let starts = map (λ w. w.now) c.put_largest_on_top.new.work.items in
    let same : (q : List ℕ) → has_path starts q ≡ has_path pushed.0 q = λ q. c.in_ok-put_largest_on_top.ensures q ∙ ap (λ ps. has_path ps q) first in
    let direct : (q : List ℕ) → (has_path starts q ≡ true) ↔ IsDirect pairs q member = λ q. (
      λ has. contains-pairs_in entries c.requires.ordered q member ∙ sym (pushed.1.each q) ∙ sym (same q) ∙ has,
      λ pair. same q ∙ pushed.1.each q ∙ sym (contains-pairs_in entries c.requires.ordered q member) ∙ pair,
    ) in
    IfOk-weaker c.search.result _ _ (λ found is. found_above pairs member starts found direct is) c.search.ensures
