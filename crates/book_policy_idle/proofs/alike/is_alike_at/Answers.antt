use Rattle.std.proofs.Common.{None, sym, ap, ◌∙◌}
use Rattle.std.proofs.lemmas.Result.{IfOk-weaker}
use Rattle.book_policy_idle.specs.Alike.{AlikeAt, AlikeWith, own_list, stands}
use Rattle.book_policy_idle.proofs.Alikeness.{at_with, neither_at, none_at, told_as, told_yes}
use Rattle.book_policy_idle.proofs.alike.is_alike_at.Goals as goal

pub returns-then-not-stands : goal.returns-then-not-stands
returns-then-not-stands c =
    let i = c.args.index in
    let askers = c.args.askers.now in
    let spot = c.args.spot.now in
    told_yes (AlikeAt i askers spot)
    (neither_at i askers spot (ap (stands i) (sym c.as_slice.ensures) ∙ sym c.stands.ensures ∙ c.if-stands.false)
    (ap (stands i) (sym c.as_slice-2.ensures) ∙ sym c.stands-2.ensures ∙ c.if-not-stands.true))

pub returns : goal.returns
returns c =
    let i = c.args.index in
    let askers = c.args.askers.now in
    let spot = c.args.spot.now in
    IfOk-weaker c.is_alike_with.result _ _
    (λ alike tells.
    told_as (AlikeWith i (own_list None) askers spot) (AlikeAt i askers spot) alike tells
    (none_at i askers spot (ap (stands i) (sym c.as_slice.ensures) ∙ sym c.stands.ensures ∙ c.if-stands.false)) (at_with i (own_list None) askers spot))
    c.is_alike_with.ensures
