use Rattle.book_lists.proofs.Common.{◌≡◌, ◌∷◌, ◌<◌, [], Some, length, map, slice_get, sym, ap, ◌∙◌, subst, map-append, has_path}
use Rattle.std.proofs.lemmas.Bool.{ltb-true}
use Rattle.std.proofs.lemmas.Option.{slice_get-get_or}
use Rattle.book_lists.proofs.Reaching.{get_map, once_more}
use Rattle.book_lists.proofs.memberships.put_largest_on_top.Goals as goal

pub returns : goal.returns
returns c q =
    let items = c.args.work.now.items in
    let group = c.in-Some.group.now in
    let found = c.in-Some.ensures.lookup in
    let within : c.groups.top < length c.deref.result.now = ltb-true _ _ (sym found.0) in
    let there : slice_get c.deref.result.now c.groups.top ≡ Some group = slice_get-get_or c.deref.result.now c.groups.top group within ∙ ap (λ x. Some x) (sym found.1) in
    let in_items : slice_get items c.groups.top ≡ Some group = subst (λ xs. slice_get xs c.groups.top ≡ Some group) c.deref.ensures.value there in
    ap (λ ws. has_path (map (λ w. w.now) ws) q) c.in_ok-push.ensures.items
    ∙ ap (λ ps. has_path ps q) (map-append (λ w. w.now) items (group ∷ []))
    ∙ once_more (map (λ w. w.now) items) c.groups.top group.now (get_map (λ w. w.now) items c.groups.top group in_items) q
