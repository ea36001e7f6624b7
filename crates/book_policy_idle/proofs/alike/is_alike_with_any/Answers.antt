use Rattle.std.proofs.Common.{true, false, Some, None}
use Rattle.std.proofs.lemmas.Result.{IfOk-weaker}
use Rattle.book_policy_idle.specs.Alike.{AlikeAt, AlikeWith, own_list}
use Rattle.book_policy_idle.proofs.Alikeness.{at_with, three_at, told_as, told_no}
use Rattle.book_policy_idle.proofs.alike.is_alike_with_any.Goals as goal

pub returns-then-not-branch : goal.returns-then-not-branch
returns-then-not-branch c =
    let i = c.args.index in
    let askers = c.args.askers.now in
    let spot = c.args.spot.now in
    told_no (AlikeWith i (own_list None) askers spot) (AlikeAt i askers spot) c.in_ok-is_alike_with.field-0 c.if-not-branch.true c.in_ok-is_alike_with.ensures
    (at_with i (own_list None) askers spot)

pub returns-then-not-branch-2 : goal.returns-then-not-branch-2
returns-then-not-branch-2 c =
    let i = c.args.index in
    let askers = c.args.askers.now in
    let spot = c.args.spot.now in
    told_no (AlikeWith i (own_list (Some false)) askers spot) (AlikeAt i askers spot) c.in_ok-is_alike_with-2.field-0 c.if-not-branch-2.true c.in_ok-is_alike_with-2.ensures
    (at_with i (own_list (Some false)) askers spot)

pub returns : goal.returns
returns c =
    let i = c.args.index in
    let askers = c.args.askers.now in
    let spot = c.args.spot.now in
    IfOk-weaker c.is_alike_with-3.result _ _
    (λ alike tells.
    told_as (AlikeWith i (own_list (Some true)) askers spot) (AlikeAt i askers spot) alike tells
    (three_at i askers spot (c.in_ok-is_alike_with.ensures.0 c.if-not-branch.false) (c.in_ok-is_alike_with-2.ensures.0 c.if-not-branch-2.false))
    (at_with i (own_list (Some true)) askers spot))
    c.is_alike_with-3.ensures
