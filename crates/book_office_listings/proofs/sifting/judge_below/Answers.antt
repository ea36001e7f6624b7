use Rattle.book_office_listings.proofs.Common.{◌≡◌, [], ◌++◌, ◌∷◌, sym, ap, ◌∙◌, subst, read_by, effective_of, bare_entries}
use Rattle.book_lists.specs.Readings.{IsAllowedRead}
use Rattle.book_lists.proofs.OneReader.{allowed_one, read_append}
use Rattle.book_office_listings.proofs.AppliedEntries.{allowed_same}
use Rattle.book_office_listings.proofs.SiftedLevels.{sifted_as}
use Rattle.book_lists.proofs.JudgedNeeds.{judged}
use Rattle.book_office_listings.proofs.sifting.judge_below.Goals as goal

pub returns-in-Allowed : goal.returns-in-Allowed
returns-in-Allowed c = λ is.
    let circle = c.args.circle.now in
    let here = c.args.here.now in
    let set = c.args.set in
    let own = c.args.own.now in
    let above = c.args.above.now in
    let kept = c.args.sifted.now in
    let first = c.judge_over.ensures.scanned set [] (judged set [] _ c.start-deciders.ensures) in
    let second = c.judge_over-2.ensures.scanned set _ first in
    let third = c.judge_over-3.ensures.scanned set _ second in
    let fourth = c.judge_over-4.ensures.scanned set _ third in
    let read : ((read_by circle here c.as_slice.result.now ++ read_by circle here c.as_slice-2.result.now) ++ read_by circle here c.as_slice-3.result.now) ++ read_by circle here c.as_slice-4.result.now
    ≡ read_by circle here (((own.protected ++ kept.protected) ++ own.own) ++ kept.own) =
    (λ k. ((read_by circle here (c.as_slice.ensures k) ++ read_by circle here (c.as_slice-2.ensures k)) ++ read_by circle here (c.as_slice-3.ensures k)) ++ read_by circle here (c.as_slice-4.ensures k))
    ∙ sym (
    read_append circle here ((own.protected ++ kept.protected) ++ own.own) kept.own
    ∙ ap (λ rs. rs ++ read_by circle here kept.own)
    (read_append circle here (own.protected ++ kept.protected) own.own
    ∙ ap (λ rs. rs ++ read_by circle here own.own) (read_append circle here own.protected kept.protected))
    ) in
    let allowed = (c.outcome.ensures.allowed set _ fourth).0 c.in-Allowed.is in
    allowed_same circle here (((own.protected ++ kept.protected) ++ own.own) ++ kept.own) (bare_entries (effective_of (own ∷ above))) set
    (sifted_as own above circle kept is here)
    ((allowed_one circle here (((own.protected ++ kept.protected) ++ own.own) ++ kept.own) set).0 (subst (λ rs. IsAllowedRead rs set) read allowed))
