use Rattle.book_log_replies.proofs.Common.{◌≡◌, ◌+◌, ◌<◌, length, ap, sym, ◌∙◌, arith, Some, option_map, slice_get, list_in, Entry, decided, placed_at}
use Rattle.std.proofs.lemmas.Option.{slice_get-get_or}
use Rattle.book_log_replies.proofs.Places.{placed_get}
use Rattle.book_log_replies.proofs.standing.decided_at.Goals as goal

pub returns : goal.returns
returns c =
    let level = c.args.level.now in
    let b = c.args.protected in
    let n = c.args.number in
    let k = c.args.index in
    let es = list_in b level in
    let e : Entry = c.index-list-index.result in
    let same : c.list_in-list.result.now ≡ es = c.list_in-list.ensures in
    let long : length c.list_in-list.result.now ≡ length es = ap length same in
    let within : k < length es = c.requires in
    let there : slice_get es k ≡ Some e =
    ap (λ l. slice_get l k) (sym same)
    ∙ slice_get-get_or c.list_in-list.result.now k e (omega arith)
    ∙ ap Some (sym c.index-list-index.is) in
    let place : 1 + k ≡ k + 1 = omega arith in
    ap (option_map (decided n)) (placed_get b level.path es k ∙ ap (option_map (λ (x : Entry). placed_at b level.path (1 + k, x))) there)
    ∙ ap (λ m. Some (decided n (placed_at b level.path (m, e)))) place
    ∙ (λ i. Some (record {
      from = sym c.in_ok-copy_of.ensures i;
      protected = b;
      place = k + 1;
      number = n;
      entry = sym c.in_ok-clone.ensures.cases i;
    }))
