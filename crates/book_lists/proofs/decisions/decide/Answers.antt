use Rattle.book_lists.proofs.Common.{[], ◌<◌, ◌^◌, subst, sym}
use Rattle.std.proofs.lemmas.List.{length-map}
use Rattle.book_lists.proofs.JudgedNeeds.{judged}
use Rattle.book_lists.proofs.OneReader.{allowed_one, denied_one}
use Rattle.book_lists.proofs.decisions.decide.Goals as goal

pub returns-clause-allowed : goal.returns-clause-allowed
returns-clause-allowed c =
    let entries = c.args.entries.now in
    let circle = c.args.circle.now in
    let here = c.args.here.now in
    let need = c.args.need in
    let same = c.outcome.ensures.allowed need _ (c.judge_over.ensures.scanned need [] (judged need [] _ c.start-deciders.ensures)) in
    let one = allowed_one circle here entries need in
    (λ e. one.0 (same.0 e), λ all. same.1 (one.1 all))

pub returns-clause-denied : goal.returns-clause-denied
returns-clause-denied c =
    let entries = c.args.entries.now in
    let circle = c.args.circle.now in
    let here = c.args.here.now in
    let need = c.args.need in
    denied_one circle here entries need c.outcome.result (c.outcome.ensures.denied need _ (c.judge_over.ensures.scanned need [] (judged need [] _ c.start-deciders.ensures))
    (subst (λ n. n < 2 ^ 64) (sym (length-map entries _)) c.judge_over.ensures.fits))
