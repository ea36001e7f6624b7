use Rattle.book_office_members.proofs.Common.{◌≡◌, [], sym, ap, unwrap_or, groups_at, path_cmp}
use Rattle.std.proofs.Common.{append-nil}
use Rattle.std.specs.FinSet as set
use Rattle.book_office_members.proofs.links.push_targets.Goals as goal

pub returns-in-None : goal.returns-in-None
returns-in-None c =
    let none : groups_at c.args.groups.now.entries c.args.member.now ≡ set.empty = ap (λ o. unwrap_or o set.empty) (sym c.in-None.ensures.value) in
    ([], rw none (record { each = λ q. sym (set.contains-empty path_cmp q); once = sym (set.len-empty path_cmp) }), sym (append-nil _))
